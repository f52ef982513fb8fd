-- The replies to the Modbus requests of a script that three legs play. Own rule.
use Rattle.std.specs.Prelude.{ℕ, pos, List, [], ◌∷◌, ◌++◌, Option, codes}
use Rattle.std.specs.List.{enumerate_from, flat_map}
use Rattle.engine_face.specs.Meaning.{Meaning}
use Rattle.script_text.specs.Moments.{moment_at}
use Rattle.script_text.specs.ScriptValue.{ScriptValue}
use Rattle.report_lines.specs.Calm.{calm_line}
use Rattle.report_lines.specs.Lines.{line}
use Rattle.diag_report.specs.Report.{ScanTold}
use Rattle.modbus_face.specs.Replies.{reply_of}
use Rattle.modbus_face.specs.ReplyLines.{reply_line}
use Rattle.play_report.specs.LegsReport.{told_of}

-- The requests of a scan, in their order.
abbrev pub asks_of : ScriptValue → (scan : ℕ) → List (List ℕ)
asks_of v scan = (moment_at scan v.moments).asks

-- The replies of a scan, from its number and what is told of it: each request is answered behind the scan, in their
-- order, over the inputs as leg A voted them and the field outputs.
abbrev pub scan_replies : ScriptValue → ℕ × ScanTold → List ℕ
scan_replies v s = flat_map (λ request. reply_line s.0 (reply_of request v.points s.1.a.values s.1.out)) (asks_of v s.0)

-- The text: its title, the replies of the scans in their order, whether all scans were calm.
abbrev pub play_replies : Meaning → ScriptValue → (uncalm : Option ℕ) → List ℕ
play_replies m v uncalm =
    line (codes "TRICON MODBUS") (pos 1 ∷ [])
    ++ (flat_map (scan_replies v) (enumerate_from 1 (told_of m v)) ++ (calm_line uncalm ++ line (codes "END") []))
