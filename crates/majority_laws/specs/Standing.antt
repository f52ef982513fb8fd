-- How a good leg stands within a scan, and what its result is. Scans count from 1. Own rule.
use Rattle.std.specs.Prelude.{◌≡◌, ℕ, ℤ, ◌-◌, ◌%◌, ◌≤◌, List, if◌then◌else◌}
use Rattle.tri_base.specs.declared.leg.Leg.{Leg}
use Rattle.tri_base.specs.declared.leg.Side.{Side}
use Rattle.tri_base.specs.declared.leg.Side.TheVariants.{Left, Right}
use Rattle.engine_face.specs.Meaning.{Meaning}
use Rattle.leg_packet.specs.Sheets.{spelled}
use Rattle.script_text.specs.ScriptValue.{ScriptValue}
use Rattle.plant_script.specs.Calm.{IsCalm}
use Rattle.plant_script.specs.Countdown.{IsSound}
use Rattle.plant_script.specs.SingleTexts.{accepts, download_at, program_windows, text_after}
use Rattle.single_controller.specs.Controller.{Controller, controller_in, scanned_at, verdict_at}
use Rattle.leg_laws.specs.States.{Run, Running}
use Rattle.leg_laws.specs.ChangePoint.{prepared}
use Rattle.leg_laws.specs.HalfScans.{run_sheet}
use Rattle.leg_laws.specs.Good.{scans_since}
use Rattle.leg_laws.specs.Plays.{play_of, scan_behind}
use Rattle.leg_laws.specs.Rounds.{state_after}
use Rattle.leg_laws.specs.ThreeScans.{from_left, from_right, half_at, scans_behind}
use Rattle.majority_laws.specs.Carried.{told}
use Rattle.majority_laws.specs.Majority.{CanBePlayed}

-- The run of a leg that stands where a controller stands, so many scans after the last download was accepted.
abbrev pub run_of : Meaning → Controller → (since : ℕ) → Run
run_of m c since = record { text = c.text; words = c.words; epoch = c.epoch; turn = since % program_windows m c.text }

-- The run of a good leg behind a scan's change point: that of the one controller there. An accepted download begins
-- with the first window.
abbrev pub run_in : Meaning → ScriptValue → (scan : ℕ) → Run
run_in m v scan =
    run_of m (controller_in m v scan)
    (if accepts m (download_at v scan) (text_after m v (scan - 1)) then 0 else scans_since m v (scan - 1))

-- The result packet of a good leg.
abbrev pub good_result : Meaning → ScriptValue → (scan : ℕ) → List ℤ
good_result m v scan = spelled (run_sheet (run_in m v scan) (scanned_at m v scan))

-- A leg stands so within a scan: behind the change point it has the run of the one controller there, with the words
-- that an accepted download carries over, and tells that one's verdict; its own result packet is the good one.
pub record StandsGood (m : Meaning) (v : ScriptValue) (scan : ℕ) (leg : Leg) : Type 0 where
  pub ready : prepared m (scan_behind (play_of v) leg (scan - 1)) (state_after m (play_of v) (scan - 1) leg)
      ≡ record { state = Running (run_in m v scan); verdict = told (verdict_at m v scan) }
  pub result : (half_at m v.points (scans_behind (play_of v) (scan - 1)) (state_after m (play_of v) (scan - 1)) leg).own
      ≡ good_result m v scan

-- While all scans are calm, each sound leg stands so.
abbrev pub SoundLegsStandGood : Type 0
SoundLegsStandGood =
    (m : Meaning) (v : ScriptValue) (scan : ℕ) → CanBePlayed m v → 1 ≤ scan → scan ≤ v.scans → IsCalm m v scan
    → (leg : Leg) → IsSound m v leg scan → StandsGood m v scan leg

-- The result packet that a leg takes from a side.
abbrev pub result_from : Meaning → ScriptValue → (scan : ℕ) → Leg → Side → List ℤ
result_from m v scan leg Left =
    from_left m v.points (scans_behind (play_of v) (scan - 1)) (state_after m (play_of v) (scan - 1)) leg
result_from m v scan leg Right =
    from_right m v.points (scans_behind (play_of v) (scan - 1)) (state_after m (play_of v) (scan - 1)) leg
