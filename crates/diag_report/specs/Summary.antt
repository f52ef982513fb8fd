-- The summary of a play of the three legs. Own rule.
use Rattle.std.specs.Prelude.{ℕ, ℤ, pos, List, [], ◌∷◌, ◌++◌, Option, codes}
use Rattle.report_lines.specs.Calm.{calm_line}
use Rattle.report_lines.specs.Lines.{line}

-- The first line, the number of scans, the sum of all values of all outputs, and how many scans have the alarm MP.
abbrev pub counts_of : (scans : ℕ) (sum : ℤ) (alarmed : ℕ) → List ℕ
counts_of scans sum alarmed =
    codes "TRICON SUMMARY 1\n"
    ++ (line (codes "SCANS") (pos scans ∷ [])
    ++ (line (codes "SUM") (sum ∷ []) ++ line (codes "ALARMED") (pos alarmed ∷ [])))

-- The summary: these, and whether all was calm.
abbrev pub summary_of : (scans : ℕ) (sum : ℤ) (alarmed : ℕ) (uncalm : Option ℕ) → List ℕ
summary_of scans sum alarmed uncalm = counts_of scans sum alarmed ++ (calm_line uncalm ++ line (codes "END") [])
