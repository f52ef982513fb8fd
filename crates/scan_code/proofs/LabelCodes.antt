-- The code of a condition of CASE, one label at a time.
use Rattle.std.proofs.Common.{◌≡◌, ℕ, ℤ, ◌+◌, ◌<◌, List, [], ◌∷◌, ◌++◌, length, get_or, take, ap, sym, ◌∙◌}
use Rattle.st_tree.specs.declared.statement.Label.{Label}
use Rattle.scan_machine.specs.declared.instructions.Instr.{Instr}
use Rattle.scan_machine.specs.declared.instructions.Instr.TheVariants as i
use Rattle.st_core.specs.Core.{Term}
use Rattle.st_core.specs.Core as c
use Rattle.st_core.specs.Memory.{Shape}
use Rattle.st_core.specs.Codes.{term_code}
use Rattle.st_meaning.specs.Statements.{range_of, within, or_within}
use Rattle.code_size.proofs.LabelCosts.{rows, rows_more}
use Rattle.scan_code.proofs.RowCodes.{binary_code}

pub rows_code : (shape : Shape) (t : Term) (first : ℤ × ℤ) (more : List Label) (k : ℕ) (x : Label) (old here next new : List Instr) → k < length more → x ≡ get_or more k x
    → here ≡ old ++ term_code shape (rows t first (take k more)) → next ≡ here ++ term_code shape (within t (range_of x)) → new ≡ next ++ i.Or ∷ [] → new ≡ old ++ term_code shape (rows t first (take (k + 1) more))
rows_code shape t first more k x old here next new less is h n w =
    binary_code shape c.Or (rows t first (take k more)) (within t (range_of x)) old here next new h n w
    ∙ ap (λ (b : Term). old ++ term_code shape b) (ap (λ y. or_within t (rows t first (take k more)) (range_of y)) is ∙ sym (rows_more t first more k x less))
