-- The events of a play of three legs: each change of a discrete point, once. Own rule.
use Rattle.std.specs.Prelude.{ℕ, List, map, Option}
use Rattle.engine_face.specs.Meaning.{Meaning}
use Rattle.script_text.specs.ScriptValue.{ScriptValue}
use Rattle.diag_report.specs.Report.{ScanTold}
use Rattle.soe_log.specs.Recording.{ScanShown}
use Rattle.soe_log.specs.EventText.{events_text}
use Rattle.play_report.specs.LegsReport.{told_of}

-- What a recorder is shown of a scan is what the report tells of it: the scan time and the inputs as leg A voted them,
-- and the field outputs.
abbrev pub shown_of : ScanTold → ScanShown
shown_of told = record { time = told.a.time; inputs = told.a.values; outputs = told.out }

-- The text of the events of a script's play, with the first scan that isn't calm.
abbrev pub play_events : Meaning → ScriptValue → (uncalm : Option ℕ) → List ℕ
play_events m v uncalm = events_text v.points (map shown_of (told_of m v)) uncalm
