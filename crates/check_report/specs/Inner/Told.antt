-- Nobody has to believe what stands here: it serves private functions alone.
-- What is told of the downloads of so many scans.
use Rattle.std.specs.Prelude.{ℕ, ◌-◌, List}
use Rattle.std.specs.List.{flat_map, range_with_len}
use Rattle.engine_face.specs.Meaning.{Meaning}
use Rattle.script_text.specs.ScriptValue.{ScriptValue}
use Rattle.plant_script.specs.SingleTexts.{download_at, text_after}
use Rattle.check_report.specs.CheckText.{download_lines}

-- The lines of a scan's download.
abbrev pub lines_at : Meaning → ScriptValue → ℕ → List ℕ
lines_at m v scan = download_lines m scan (download_at v scan) (text_after m v (scan - 1))

-- The lines of the downloads of so many scans.
abbrev pub told : Meaning → ScriptValue → ℕ → List ℕ
told m v scans = flat_map (lines_at m v) (range_with_len 1 scans)
