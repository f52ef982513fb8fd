-- What is voted lies between what two sound legs read. Own rule.
use Rattle.std.specs.Prelude.{◌≡◌, ℕ, ℤ, ◌≤◌, Some, slice_get}
use Rattle.std.specs.List.{All}
use Rattle.tri_base.specs.declared.leg.Leg.{Leg}
use Rattle.tri_base.specs.Legs.{right_of}
use Rattle.chassis.specs.Ranges.{Fits}
use Rattle.engine_face.specs.Meaning.{Meaning}
use Rattle.leg_packet.specs.Readings.{Readings}
use Rattle.input_legs.specs.VotedSheets.{SheetLiesBetween}
use Rattle.script_text.specs.ScriptValue.{ScriptValue}
use Rattle.script_text.specs.LegScans.{IsReadable, scan_of}
use Rattle.plant_script.specs.Countdown.{IsSound}
use Rattle.single_controller.specs.Controller.{voted_at}

-- The scan time and the readings that a script gives a leg in a scan.
abbrev pub given : ScriptValue → Leg → (scan : ℕ) → Readings
given v leg scan = record { time = (scan_of v leg scan).time; values = (scan_of v leg scan).readings }

-- A script's points have their ranges, and each leg can read a scan.
pub record CanBeRead (v : ScriptValue) (scan : ℕ) : Type 0 where
  pub ranges : All Fits v.points
  pub readable : (leg : Leg) → IsReadable v.points (scan_of v leg scan)

-- Of a leg and its right neighbour: the voted time and each voted input lie between theirs, and the value of an input
-- on which they agree is what is voted there.
pub record LiesBetweenSound (v : ScriptValue) (scan : ℕ) (leg : Leg) : Type 0 where
  pub between : SheetLiesBetween (given v leg scan) (given v (right_of leg) scan) (voted_at v scan)
  pub agreed : (input : ℕ) (value : ℤ) → slice_get (given v leg scan).values input ≡ Some value
      → slice_get (given v (right_of leg) scan).values input ≡ Some value
      → slice_get (voted_at v scan).values input ≡ Some value

-- That is so where both are sound at the scan. In the ring one of any two legs is the right neighbour of the other.
abbrev pub InputsLieBetween : Type 0
InputsLieBetween =
    (m : Meaning) (v : ScriptValue) (scan : ℕ) → CanBeRead v scan → 1 ≤ scan
    → (leg : Leg) → IsSound m v leg scan → IsSound m v (right_of leg) scan → LiesBetweenSound v scan leg
