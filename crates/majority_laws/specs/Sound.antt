-- Sound legs stand where the one controller stands. Own rule.
use Rattle.std.specs.Prelude.{◌≡◌, ℕ, pos, ◌-◌, ◌%◌, ◌≤◌, Some}
use Rattle.tri_base.specs.declared.leg.Leg.{Leg}
use Rattle.engine_face.specs.declared.refusal.Refusal.{Refusal}
use Rattle.engine_face.specs.declared.verdict.Verdict.TheVariants.{Refused}
use Rattle.engine_face.specs.Meaning.{Meaning}
use Rattle.fault_history.specs.Notes.{EndingData, Runs}
use Rattle.script_text.specs.ScriptValue.{ScriptValue}
use Rattle.plant_script.specs.Calm.{IsCalm}
use Rattle.plant_script.specs.Countdown.{IsSound}
use Rattle.plant_script.specs.SingleTexts.{program_windows}
use Rattle.single_controller.specs.Controller.{controller_after, controller_in, verdict_at}
use Rattle.leg_laws.specs.ChangePoint.{prepared}
use Rattle.leg_laws.specs.Endings.{state_ending}
use Rattle.leg_laws.specs.Good.{IsGood, scans_since}
use Rattle.leg_laws.specs.Plays.{play_of, scan_behind}
use Rattle.leg_laws.specs.Rounds.{state_after}
use Rattle.majority_laws.specs.Majority.{CanBePlayed}

-- After so many calm scans, a leg whose countdown is over is good, whatever its faults left behind.
abbrev pub SoundLegsAreGood : Type 0
SoundLegsAreGood =
    (m : Meaning) (v : ScriptValue) (scans : ℕ) → CanBePlayed m v → scans ≤ v.scans → IsCalm m v scans
    → (leg : Leg) → IsSound m v leg scans → IsGood m v scans (state_after m (play_of v) scans leg)

-- In a calm scan, a leg whose countdown is over behind it was good before it.
abbrev pub SoundLegsWereGood : Type 0
SoundLegsWereGood =
    (m : Meaning) (v : ScriptValue) (scan : ℕ) → CanBePlayed m v → 1 ≤ scan → scan ≤ v.scans → IsCalm m v scan
    → (leg : Leg) → IsSound m v leg scan → IsGood m v (scan - 1) (state_after m (play_of v) (scan - 1) leg)

-- How the one controller stands after so many scans, as a leg that runs tells it: how many downloads it has accepted,
-- which window comes next, and its words.
abbrev pub good_ending : Meaning → ScriptValue → (scans : ℕ) → EndingData
good_ending m v scans =
    let c = controller_after m v scans in
    Runs (pos c.epoch) (pos (scans_since m v scans % program_windows m c.text)) c.words

-- After so many calm scans a sound leg ends so.
abbrev pub SoundLegsEndWell : Type 0
SoundLegsEndWell =
    (m : Meaning) (v : ScriptValue) (scans : ℕ) → CanBePlayed m v → scans ≤ v.scans → IsCalm m v scans
    → (leg : Leg) → IsSound m v leg scans
    → state_ending (state_after m (play_of v) scans leg) ≡ good_ending m v scans

-- The change point of a scan leaves the one controller as it was, and each sound leg too, which tells the refusal.
pub record IsUnchanged (m : Meaning) (v : ScriptValue) (scan : ℕ) (refusal : Refusal) : Type 0 where
  pub controller : controller_in m v scan ≡ controller_after m v (scan - 1)
  pub legs : (leg : Leg) → IsSound m v leg scan
      → prepared m (scan_behind (play_of v) leg (scan - 1)) (state_after m (play_of v) (scan - 1) leg)
      ≡ record { state = state_after m (play_of v) (scan - 1) leg; verdict = Some (Refused refusal) }

-- In a calm scan, a download that the one controller refuses changes nothing.
abbrev pub RefusedChangesNothing : Type 0
RefusedChangesNothing =
    (m : Meaning) (v : ScriptValue) (scan : ℕ) → CanBePlayed m v → 1 ≤ scan → scan ≤ v.scans → IsCalm m v scan
    → (refusal : Refusal) → verdict_at m v scan ≡ Some (Some refusal) → IsUnchanged m v scan refusal
