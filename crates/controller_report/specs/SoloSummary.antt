-- The summary of a run of the one controller. Own rule.
use Rattle.std.specs.Prelude.{ℕ, ℤ, pos, ◌+ℤ◌, List, [], ◌∷◌, ◌++◌, fold, codes}
use Rattle.std.specs.List.{range_with_len}
use Rattle.engine_face.specs.Meaning.{Meaning}
use Rattle.script_text.specs.ScriptValue.{ScriptValue}
use Rattle.report_lines.specs.Lines.{line}
use Rattle.single_controller.specs.Controller.{scanned_at}

-- A number and the sum of others.
abbrev pub plus_all : ℤ → List ℤ → ℤ
plus_all sum numbers = fold (λ a b. a +ℤ b) sum numbers

-- The sum of all outputs of all scans.
abbrev pub output_sum : Meaning → ScriptValue → ℤ
output_sum m v =
    fold (λ sum scan. plus_all sum (scanned_at m v scan).outputs) (pos 0) (range_with_len 1 v.scans)

-- The summary: the number of scans and the sum.
abbrev pub solo_summary : Meaning → ScriptValue → List ℕ
solo_summary m v =
    line (codes "TRICON SUMMARY") (pos 1 ∷ [])
    ++ (line (codes "SCANS") (pos v.scans ∷ [])
    ++ (line (codes "SUM") (output_sum m v ∷ []) ++ line (codes "END") []))
