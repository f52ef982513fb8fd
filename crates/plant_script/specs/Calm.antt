-- Which scans are calm: of the script and the one controller's texts alone. Own rule.
use Rattle.std.specs.Prelude.{◌≡◌, ℕ, ◌<◌, ◌≤◌, Option, Some, None}
use Rattle.tri_base.specs.declared.leg.Leg.{Leg}
use Rattle.tri_base.specs.declared.leg.Side.TheVariants.{Left, Right}
use Rattle.engine_face.specs.Meaning.{Meaning}
use Rattle.script_text.specs.ScriptValue.{ScriptValue}
use Rattle.script_text.specs.LegScans.{scan_of}
use Rattle.plant_script.specs.Faces.{face}
use Rattle.plant_script.specs.Countdown.{IsSuspect}

-- At a scan at most one leg is suspect, and each leg shows both sides the same readings.
pub record IsQuietScan (m : Meaning) (v : ScriptValue) (scan : ℕ) : Type 0 where
  pub one : (x y : Leg) → IsSuspect m v x scan → IsSuspect m v y scan → x ≡ y
  pub faces : (x : Leg) → face Left (scan_of v x scan) ≡ face Right (scan_of v x scan)

-- A scan is calm where this holds of it and of each scan before it.
abbrev pub IsCalm : Meaning → ScriptValue → ℕ → Type 0
IsCalm m v scan = (k : ℕ) → 1 ≤ k → k ≤ scan → IsQuietScan m v k

-- The first scan that isn't calm, or none where all are.
abbrev pub IsFirstUncalm : Meaning → ScriptValue → Option ℕ → Type 0
IsFirstUncalm m v None = IsCalm m v v.scans
IsFirstUncalm m v (Some scan) =
    (1 ≤ scan) × (scan ≤ v.scans) × ((k : ℕ) → k < scan → IsCalm m v k) × (IsQuietScan m v scan → ⊥)
