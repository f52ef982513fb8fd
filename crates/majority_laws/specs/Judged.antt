-- What sound legs say of their neighbours. Own rule.
use Rattle.std.specs.Prelude.{◌≡◌, ◌≢◌, ◌⊎◌, ℕ, ◌≤◌}
use Rattle.tri_base.specs.declared.judged.Judged.TheVariants as j
use Rattle.tri_base.specs.declared.leg.Leg.{Leg}
use Rattle.tri_base.specs.declared.leg.Side.{Side}
use Rattle.tri_base.specs.Legs.{neighbour}
use Rattle.engine_face.specs.Meaning.{Meaning}
use Rattle.fault_history.specs.Notes.{NoteData}
use Rattle.script_text.specs.ScriptValue.{ScriptValue}
use Rattle.plant_script.specs.Calm.{IsCalm}
use Rattle.plant_script.specs.Countdown.{IsSound, IsSuspect}
use Rattle.majority_laws.specs.Majority.{CanBePlayed, note_at}
use Rattle.majority_laws.specs.Standing.{good_result, result_from}

-- A leg accuses a suspect one.
pub record AccusesSuspect (m : Meaning) (v : ScriptValue) (scan : ℕ) (note : NoteData) : Type 0 where
  pub accused : Leg
  pub suspect : IsSuspect m v accused scan
  pub judged : note.judged ≡ j.Accuses accused

-- A leg agrees, or accuses a suspect one. It agrees where no leg is suspect. Where a neighbour is, it accuses that one
-- exactly where the result that it takes from it isn't the good one, and else agrees.
pub record JudgesFairly (m : Meaning) (v : ScriptValue) (scan : ℕ) (leg : Leg) (note : NoteData) : Type 0 where
  pub fair : (note.judged ≡ j.Agrees) ⊎ AccusesSuspect m v scan note
  pub none : ((other : Leg) → IsSound m v other scan) → note.judged ≡ j.Agrees
  pub same : (side : Side) → IsSuspect m v (neighbour leg side) scan
      → result_from m v scan leg side ≡ good_result m v scan → note.judged ≡ j.Agrees
  pub other : (side : Side) → IsSuspect m v (neighbour leg side) scan
      → result_from m v scan leg side ≢ good_result m v scan → note.judged ≡ j.Accuses (neighbour leg side)

-- While all scans are calm, each sound leg judges so.
abbrev pub SoundLegsJudgeFairly : Type 0
SoundLegsJudgeFairly =
    (m : Meaning) (v : ScriptValue) (scan : ℕ) → CanBePlayed m v → 1 ≤ scan → scan ≤ v.scans → IsCalm m v scan
    → (leg : Leg) → IsSound m v leg scan → JudgesFairly m v scan leg (note_at m v scan leg)
