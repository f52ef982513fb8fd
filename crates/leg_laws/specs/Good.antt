-- A leg that stands where the one controller of the script stands. Own rule.
use Rattle.std.specs.Prelude.{◌≡◌, ℕ, zero, suc, ◌+◌, ◌%◌, if◌then◌else◌}
use Rattle.engine_face.specs.Meaning.{Meaning}
use Rattle.script_text.specs.ScriptValue.{ScriptValue}
use Rattle.plant_script.specs.SingleTexts.{accepts, download_at, program_windows, text_after}
use Rattle.single_controller.specs.Controller.{controller_after}
use Rattle.leg_laws.specs.States.{Run, State, Running}

-- How many scans there were from the last one on in which the one controller accepted a download, that one counted; or
-- from the first scan on.
unfoldable pub scans_since : Meaning → ScriptValue → (scans : ℕ) → ℕ
scans_since m v zero = 0
scans_since m v (suc scans) =
    if accepts m (download_at v (suc scans)) (text_after m v scans) then 1 else scans_since m v scans + 1

-- The run of a good leg after so many scans: text, words and epoch are the one controller's, and each scan since the
-- last accepted download has turned to the next window.
abbrev pub good_run : Meaning → ScriptValue → (scans : ℕ) → Run
good_run m v scans =
    let c = controller_after m v scans in
    record {
      text = c.text;
      words = c.words;
      epoch = c.epoch;
      turn = scans_since m v scans % program_windows m c.text;
    }

-- A leg is good after so many scans where it runs just that.
abbrev pub IsGood : Meaning → ScriptValue → (scans : ℕ) → State → Type 0
IsGood m v scans state = state ≡ Running (good_run m v scans)
