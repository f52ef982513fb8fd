-- Which plays are calm: of the script and the one controller's texts alone. Own rule.
use Rattle.std.specs.Prelude.{◌≡◌, ◌≢◌, ℕ, ◌≤◌, true}
use Rattle.tri_base.specs.declared.leg.Leg.{Leg}
use Rattle.tri_base.specs.declared.leg.Side.TheVariants.{Left, Right}
use Rattle.tri_base.specs.Legs.{right_of}
use Rattle.engine_face.specs.Meaning.{Meaning}
use Rattle.script_text.specs.ScriptValue.{ScriptValue}
use Rattle.script_text.specs.LegScans.{scan_of}
use Rattle.plant_script.specs.Calm.{IsCalm, IsQuietScan}
use Rattle.plant_script.specs.Countdown.{IsSound, is_quiet}
use Rattle.plant_script.specs.Faces.{face}

-- Two legs at least are sound at a scan. In the ring one of any two stands on the right of the other.
pub record HasTwoSound (m : Meaning) (v : ScriptValue) (scan : ℕ) : Type 0 where
  pub leg : Leg
  pub one : IsSound m v leg scan
  pub other : IsSound m v (right_of leg) scan

-- That is so of each scan at which no more than one leg is suspect.
abbrev pub TwoLegsAreSound : Type 0
TwoLegsAreSound = (m : Meaning) (v : ScriptValue) (scan : ℕ) → IsQuietScan m v scan → HasTwoSound m v scan

-- No fault line of the first scans names a leg.
abbrev pub HasNoFaults : ScriptValue → (scans : ℕ) → Leg → Type 0
HasNoFaults v scans leg = (k : ℕ) → 1 ≤ k → k ≤ scans → is_quiet (scan_of v leg k) ≡ true

-- The first scans are calm, and all legs are sound behind them.
pub record IsUndisturbed (m : Meaning) (v : ScriptValue) (scans : ℕ) : Type 0 where
  pub calm : IsCalm m v scans
  pub sound : (leg : Leg) → IsSound m v leg scans

-- That is so where no fault line names a leg.
abbrev pub QuietPlaysAreUndisturbed : Type 0
QuietPlaysAreUndisturbed =
    (m : Meaning) (v : ScriptValue) (scans : ℕ) → ((leg : Leg) → HasNoFaults v scans leg) → IsUndisturbed m v scans

-- Where fault lines name one leg alone, and it shows both its neighbours the same readings, all scans are calm.
abbrev pub OneFaultyLegIsCalm : Type 0
OneFaultyLegIsCalm =
    (m : Meaning) (v : ScriptValue) (scans : ℕ) (faulty : Leg)
    → ((leg : Leg) → leg ≢ faulty → HasNoFaults v scans leg)
    → ((k : ℕ) → 1 ≤ k → k ≤ scans → face Left (scan_of v faulty k) ≡ face Right (scan_of v faulty k))
    → IsCalm m v scans
