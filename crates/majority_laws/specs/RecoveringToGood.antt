-- Beside two legs that stand where the one controller of a script stands, a third one comes to stand there. Own rule.
use Rattle.std.specs.Prelude.{ℕ, suc, ◌+◌, ◌*◌, ◌<◌, ◌≤◌}
use Rattle.tri_base.specs.declared.leg.Leg.{Leg}
use Rattle.tri_base.specs.Legs.{left_of, right_of}
use Rattle.engine_face.specs.Meaning.{Meaning}
use Rattle.script_text.specs.ScriptValue.{ScriptValue}
use Rattle.script_text.specs.LegScans.{LegScan, scan_of}
use Rattle.leg_laws.specs.States.{IsState, State}
use Rattle.leg_laws.specs.Closing.{run_windows}
use Rattle.leg_laws.specs.Good.{IsGood, good_run}
use Rattle.majority_laws.specs.Majority.{CanBePlayed}
use Rattle.majority_laws.specs.Recovering.{IsFair, played_from}

-- The scans of a script that follow so many.
abbrev pub scans_from : ScriptValue → (before : ℕ) → ℕ → Leg → LegScan
scans_from v before k leg = scan_of v leg (suc (before + k))

-- Both neighbours of a leg are good after so many scans. The leg itself is in any state that a leg can be in.
pub record StandsBesideGood (m : Meaning) (v : ScriptValue) (scans : ℕ) (leg : Leg) (states : Leg → State)
    : Type 0 where
  pub left : IsGood m v scans (states (left_of leg))
  pub right : IsGood m v scans (states (right_of leg))
  pub third : IsState m (states leg)

-- Then all three are good after so many fair scans of the script more: twice as many as the run's memory has windows,
-- or more. The one controller accepts no download in them, since that of a fair scan is refused.
abbrev pub RecoversToGood : Type 0
RecoversToGood =
    (m : Meaning) (v : ScriptValue) (start : Leg → State) (leg : Leg) (before scans : ℕ)
    → CanBePlayed m v → before + scans ≤ v.scans → StandsBesideGood m v before leg start
    → 2 * run_windows (good_run m v before) ≤ scans
    → ((k : ℕ) → k < scans → IsFair m (good_run m v before).text (scans_from v before k))
    → (each : Leg) → IsGood m v (before + scans) (played_from m v.points (scans_from v before) start scans each)
