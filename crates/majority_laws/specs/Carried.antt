-- What it is that the majority carries: what three legs note of a scan is what the one controller does in it. Faults in
-- one leg, its recovery and downloads are not seen in the outputs. No leg's memory and no packet occurs here. Own rule.
use Rattle.std.specs.Prelude.{◌≡◌, ℕ, ℤ, Bool, List, Option, Some, None}
use Rattle.tri_base.specs.declared.leg.Leg.{Leg}
use Rattle.tri_base.specs.declared.leg.Leg.TheVariants.{A, B, C}
use Rattle.tri_base.specs.declared.point.Point.{Point}
use Rattle.engine_face.specs.declared.refusal.Refusal.{Refusal}
use Rattle.engine_face.specs.declared.verdict.Verdict.{Verdict}
use Rattle.engine_face.specs.declared.verdict.Verdict.TheVariants as v
use Rattle.engine_face.specs.Meaning.{Meaning}
use Rattle.output_voter.specs.CommonDrives.{vote_drives_of}
use Rattle.fault_history.specs.AlarmTests.{alarms_of}
use Rattle.fault_history.specs.Notes.{NoteData}
use Rattle.script_text.specs.ScriptValue.{ScriptValue}
use Rattle.plant_script.specs.Countdown.{IsSound}
use Rattle.single_controller.specs.Controller.{scanned_at, verdict_at, voted_at}

-- The field outputs: the vote of what the three legs drive.
abbrev pub field_outputs : List Point → (Leg → NoteData) → List ℤ
field_outputs points notes =
    vote_drives_of points (record { a = (notes A).drive; b = (notes B).drive; c = (notes C).drive })

-- The alarm ARITH: two legs' runs flag it.
abbrev pub field_flag : List Point → (Leg → NoteData) → Bool
field_flag points notes = (alarms_of (notes A) (notes B) (notes C) (field_outputs points notes)).arith

-- How a leg notes what the one controller makes of a scan's download.
abbrev pub told : Option (Option Refusal) → Option Verdict
told None = None
told (Some None) = Some v.Accepted
told (Some (Some refusal)) = Some (v.Refused refusal)

-- Three legs' notes of a scan carry the one controller.
pub record Carry (m : Meaning) (v : ScriptValue) (scan : ℕ) (notes : Leg → NoteData) : Type 0 where
  -- the field outputs and the alarm ARITH are those of the one controller's scan
  pub outputs : field_outputs v.points notes ≡ (scanned_at m v scan).outputs
  pub flag : field_flag v.points notes ≡ (scanned_at m v scan).flag
  -- each leg, sound or not, votes the inputs and the scan time that the one controller runs on
  pub values : (leg : Leg) → (notes leg).values ≡ (voted_at v scan).values
  pub time : (leg : Leg) → (notes leg).time ≡ (voted_at v scan).time
  -- each sound leg tells the one controller's verdict on the download, drives its outputs, and has its flag
  pub verdict : (leg : Leg) → IsSound m v leg scan → (notes leg).verdict ≡ told (verdict_at m v scan)
  pub drive : (leg : Leg) → IsSound m v leg scan → (notes leg).drive ≡ Some (scanned_at m v scan).outputs
  pub arith : (leg : Leg) → IsSound m v leg scan → (notes leg).arith ≡ (scanned_at m v scan).flag
