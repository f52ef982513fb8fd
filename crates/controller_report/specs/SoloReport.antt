-- The report of the one controller. Own rule.
use Rattle.std.specs.Prelude.{ℕ, ℤ, pos, List, [], ◌∷◌, ◌++◌, Bool, true, false, Option, Some, None, codes}
use Rattle.std.specs.List.{flat_map, range_with_len}
use Rattle.engine_face.specs.declared.refusal.Refusal.{Refusal}
use Rattle.engine_face.specs.Meaning.{Meaning, Scanned}
use Rattle.script_text.specs.ScriptValue.{ScriptValue}
use Rattle.input_legs.specs.VotedSheets.{VotedSheet}
use Rattle.report_lines.specs.Lines.{line, two_words}
use Rattle.report_lines.specs.Refusals.{named, refusal_text}
use Rattle.single_controller.specs.Controller.{Controller, controller_after, scanned_at, verdict_at, voted_at}

-- Whether a download is accepted, else why not.
abbrev pub judged_text : Option Refusal → List ℕ
judged_text None = codes "ACCEPTED"
judged_text (Some refusal) = named (codes "REFUSED") (refusal_text refusal)

-- The line of a verdict, where there is a download.
abbrev pub verdict_lines : Option (Option Refusal) → List ℕ
verdict_lines None = []
verdict_lines (Some judged) = two_words (codes "VERDICT") (judged_text judged)

-- A flag as a number.
abbrev pub flag_number : Bool → ℤ
flag_number true = pos 1
flag_number false = pos 0

-- A scan: its number, from 1; the verdict; the voted scan time and inputs; the outputs; and the flag ARITH.
abbrev pub scan_lines : ℕ → Option (Option Refusal) → VotedSheet → Scanned → List ℕ
scan_lines scan verdict voted scanned =
    line (codes "SCAN") (pos scan ∷ [])
    ++ (verdict_lines verdict
    ++ (line (codes "IN") (voted.time ∷ voted.values)
    ++ (line (codes "OUT") scanned.outputs ++ line (codes "ARITH") (flag_number scanned.flag ∷ []))))

-- The same of one of a script's scans.
abbrev pub scan_of_report : Meaning → ScriptValue → ℕ → List ℕ
scan_of_report m v scan = scan_lines scan (verdict_at m v scan) (voted_at v scan) (scanned_at m v scan)

-- The epoch and the words after the last scan.
abbrev pub final_line : Controller → List ℕ
final_line c = line (codes "FINAL") (pos c.epoch ∷ c.words)

-- The report: its title, the scans, the state after the last one.
abbrev pub solo_report : Meaning → ScriptValue → List ℕ
solo_report m v =
    line (codes "TRICON SOLO") (pos 1 ∷ [])
    ++ (flat_map (scan_of_report m v) (range_with_len 1 v.scans)
    ++ (final_line (controller_after m v v.scans) ++ line (codes "END") []))
