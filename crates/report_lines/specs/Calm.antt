-- The line that ends what is told of a play of three legs: whether all scans were calm. Own rule.
use Rattle.std.specs.Prelude.{ℕ, pos, List, [], ◌∷◌, Option, Some, None, codes}
use Rattle.report_lines.specs.Lines.{line, two_words}
use Rattle.report_lines.specs.Refusals.{named}

-- Whether all scans were calm, else the first that wasn't.
abbrev pub calm_line : Option ℕ → List ℕ
calm_line None = two_words (codes "CALM") (codes "YES")
calm_line (Some scan) = line (named (codes "CALM") (codes "NO")) (pos scan ∷ [])
