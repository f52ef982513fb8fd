-- The pieces of a leg's scan, case by case, as equations. Each piece is opaque: proofs go by these. Own rule.
use Rattle.std.specs.Prelude.{◌≡◌, ℤ, List, [], ◌∷◌, ◌++◌, Option, Some, None}
use Rattle.tri_base.specs.declared.leg.Leg.{Leg}
use Rattle.tri_base.specs.declared.point.Point.{Point}
use Rattle.tri_base.specs.Downloads.{Download}
use Rattle.engine_face.specs.declared.verdict.Verdict.TheVariants as v
use Rattle.engine_face.specs.Meaning.{Meaning, changes}
use Rattle.input_legs.specs.VotedSheets.{vote_sheet_of}
use Rattle.memory_compare.specs.Judging.{judge_of}
use Rattle.re_education.specs.Learning.{Lesson, learn_of}
use Rattle.script_text.specs.LegScans.{LegAct, LegScan}
use Rattle.leg_laws.specs.States.{Run, State, Running, Learning}
use Rattle.leg_laws.specs.FaultLines.{acted, acted_all}
use Rattle.leg_laws.specs.ChangePoint.{Prepared, change_point, changed_run, prepared}
use Rattle.leg_laws.specs.HalfScans.{HalfScan, half_of_learner, half_of_run, half_scan, voted_packets}
use Rattle.leg_laws.specs.Closing.{closed, judged_run, learned_by}

-- Fault lines: none, one before others, and one behind others.
pub record DoesLines (m : Meaning) : Type 0 where
  pub none : (state : State) → acted_all m state [] ≡ state
  pub first : (state : State) (act : LegAct) (acts : List LegAct)
      → acted_all m state (act ∷ acts) ≡ acted_all m (acted m state act) acts
  pub last : (state : State) (acts : List LegAct) (act : LegAct)
      → acted_all m state (acts ++ act ∷ []) ≡ acted m (acted_all m state acts) act

-- The change point: without a download, of a leg that runs, and of one that learns; and behind the fault lines.
pub record TakesDownloads (m : Meaning) : Type 0 where
  pub none : (state : State) → change_point m None state ≡ record { state = state; verdict = None }
  pub running : (d : Download) (run : Run)
      → change_point m (Some d) (Running run) ≡ changed_run m d run (changes m run.text d)
  pub learning : (d : Download) (lesson : Option Lesson)
      → change_point m (Some d) (Learning lesson) ≡ record { state = Learning lesson; verdict = Some v.Learning }
  pub behind : (l : LegScan) (state : State)
      → prepared m l state ≡ change_point m l.download (acted_all m state l.acts)

-- The first half of a scan, of a leg that runs and of one that learns.
pub record VotesAndRuns (m : Meaning) (points : List Point) : Type 0 where
  pub running : (leg : Leg) (l : LegScan) (ready : Prepared) (left right : List ℤ) (run : Run)
      → ready.state ≡ Running run
      → half_scan m points leg l ready left right
      ≡ half_of_run m (vote_sheet_of points (voted_packets leg l left right)) ready.verdict run
  pub learning : (leg : Leg) (l : LegScan) (ready : Prepared) (left right : List ℤ) (lesson : Option Lesson)
      → ready.state ≡ Learning lesson
      → half_scan m points leg l ready left right
      ≡ half_of_learner (vote_sheet_of points (voted_packets leg l left right)) ready.verdict lesson

-- The second half, of a leg that ran and of one that was learning.
pub record JudgesOrLearns (m : Meaning) : Type 0 where
  pub running : (leg : Leg) (l : LegScan) (half : HalfScan) (left right : List ℤ) (run : Run)
      → half.state ≡ Running run
      → closed m leg l half left right ≡ judged_run leg l half.outputs run (judge_of half.own left right)
  pub learning : (leg : Leg) (l : LegScan) (half : HalfScan) (left right : List ℤ) (lesson : Option Lesson)
      → half.state ≡ Learning lesson
      → closed m leg l half left right ≡ learned_by m l (learn_of lesson left right)
