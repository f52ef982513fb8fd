-- The same of legs that exchange packets, step by step or over links, by the notes that they made. Own rule.
use Rattle.std.specs.Prelude.{◌≡◌, ℕ, ℤ, ◌-◌, ◌<◌, ◌≤◌, List, Some, slice_index_or}
use Rattle.tri_base.specs.declared.leg.Leg.{Leg}
use Rattle.tri_base.specs.declared.leg.Side.{Side}
use Rattle.tri_base.specs.declared.point.Point.{Point}
use Rattle.tri_base.specs.Legs.{leg_part}
use Rattle.engine_face.specs.Meaning.{Meaning}
use Rattle.fault_history.specs.Notes.{NoteData, no_note}
use Rattle.script_text.specs.ScriptValue.{ScriptValue}
use Rattle.plant_script.specs.Calm.{IsCalm}
use Rattle.plant_script.specs.Countdown.{IsSound}
use Rattle.leg_laws.specs.declared.need.Need.TheVariants.{Done}
use Rattle.leg_laws.specs.Configs.{LegValue, need_of}
use Rattle.leg_laws.specs.Endings.{ending_of}
use Rattle.leg_laws.specs.Exchanges.{Exchange}
use Rattle.leg_laws.specs.ExchangeSteps.{IsReached}
use Rattle.leg_laws.specs.InStep.{IsInStep, NoneStarved, NotedByAll}
use Rattle.leg_laws.specs.Links.{HaveFollowed, IsSettled}
use Rattle.leg_laws.specs.Plays.{play_of}
use Rattle.leg_laws.specs.SentTaken.{SentTaken}
use Rattle.majority_laws.specs.Carried.{Carry}
use Rattle.majority_laws.specs.Majority.{CanBePlayed}
use Rattle.majority_laws.specs.Judged.{JudgesFairly}
use Rattle.majority_laws.specs.Sound.{good_ending}

-- A leg's note of a scan, counted from 1, among those that were not taken away.
abbrev pub note_in : LegValue → (scan : ℕ) → NoteData
note_in leg scan = slice_index_or leg.notes (scan - 1 - leg.given) no_note

-- Each leg has made a note of a scan, which was not taken away.
pub record HaveNoted (legs : Leg → LegValue) (scan : ℕ) : Type 0 where
  pub noted : NotedByAll legs scan
  pub there : (leg : Leg) → (legs leg).given < scan

-- Their notes of a scan carry the one controller, and those of sound legs judge fairly.
pub record CarryOn (m : Meaning) (v : ScriptValue) (scan : ℕ) (legs : Leg → LegValue) : Type 0 where
  pub carried : Carry m v scan (λ leg. note_in (legs leg) scan)
  pub judged : (leg : Leg) → IsSound m v leg scan → JudgesFairly m v scan leg (note_in (legs leg) scan)

-- Legs that are in step carry on, starved or not, in each calm scan of which each leg has made a note.
abbrev pub LegsInStepCarry : Type 0
LegsInStepCarry =
    (m : Meaning) (v : ScriptValue) (legs : Leg → LegValue) (scan : ℕ) → CanBePlayed m v
    → IsInStep m (play_of v) legs → HaveNoted legs scan
    → 1 ≤ scan → scan ≤ v.scans → IsCalm m v scan → CarryOn m v scan legs

-- A leg in step whose last scan is over ends well, where no leg found memory wanting, all scans are calm and it is
-- sound behind the last.
abbrev pub LegsInStepEndWell : Type 0
LegsInStepEndWell =
    (m : Meaning) (v : ScriptValue) (legs : Leg → LegValue) → CanBePlayed m v → IsInStep m (play_of v) legs
    → NoneStarved legs → IsCalm m v v.scans → (leg : Leg) → need_of (legs leg) ≡ Done → IsSound m v leg v.scans
    → ending_of (legs leg).config ≡ Some (good_ending m v v.scans)

-- Legs that exchange packets step by step carry on too, for every list of steps.
abbrev pub ExchangingLegsCarry : Type 0
ExchangingLegsCarry =
    (m : List Point → Meaning) (v : ScriptValue) (steps : List Leg) (w : Exchange) (scan : ℕ)
    → CanBePlayed (m v.points) v → IsReached m (play_of v) steps w → HaveNoted (leg_part w.legs) scan
    → 1 ≤ scan → scan ≤ v.scans → IsCalm (m v.points) v scan → CarryOn (m v.points) v scan (leg_part w.legs)

-- After a play to its end over settled links the legs carry on in each calm scan whose notes were not taken away. Each
-- leg that is sound at the end ends well, where all scans are calm.
pub record HaveCarried (m : Meaning) (v : ScriptValue) (legs : Leg → LegValue) : Type 0 where
  pub scans : (scan : ℕ) → 1 ≤ scan → scan ≤ v.scans → IsCalm m v scan → ((leg : Leg) → (legs leg).given < scan)
      → CarryOn m v scan legs
  pub ends : IsCalm m v v.scans → (leg : Leg) → IsSound m v leg v.scans
      → ending_of (legs leg).config ≡ Some (good_ending m v v.scans)

-- That is so where no leg found memory wanting.
abbrev pub SettledLegsCarry : Type 0
SettledLegsCarry =
    (m : Meaning) (v : ScriptValue) (legs : Leg → LegValue) (ls : Leg → SentTaken)
    (remaining : Leg → Side → List (List ℤ)) → CanBePlayed m v → HaveFollowed m (play_of v) legs ls
    → IsSettled ls remaining
    → NoneStarved legs → HaveCarried m v legs
