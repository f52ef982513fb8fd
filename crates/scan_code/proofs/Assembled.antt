-- What was put is the code of the body, and is verified.
use Rattle.std.proofs.Common.{◌≡◌, ℕ, ◌+◌, ◌≤◌, List, [], ◌++◌, length, arith, sym, ◌∙◌, subst}
use Rattle.scan_machine.specs.declared.instructions.Instr.{Instr}
use Rattle.st_tree.specs.declared.statement.Statement.{Statement}
use Rattle.st_tree.specs.declared.tag.Tag.{Tag}
use Rattle.st_tree.specs.Nesting.{nesting_limit}
use Rattle.st_tree.specs.TreeNesting.{body_nesting}
use Rattle.st_core.specs.Core.{Act}
use Rattle.st_core.specs.Memory.{Shape}
use Rattle.st_core.specs.Codes.{size_of, act_code, body_code}
use Rattle.st_core.specs.Compiled.{IsCodeOf}
use Rattle.st_core.specs.Fits.{ActFits, IsSound}
use Rattle.st_core.proofs.Compiled.{body_code_is}
use Rattle.st_core.proofs.Sound.{fits_of}
use Rattle.st_meaning.specs.Statements.{acts_of}
use Rattle.st_meaning.proofs.LowStatements.{stays_low}
use Rattle.scan_code.specs.Inner.Emits.{behind}

pub put_is : (shape : Shape) (a : Act) (old new : List Instr) (finish : ℕ) → old ≡ [] → finish ≡ 0 + size_of a → new ≡ old ++ act_code shape a (behind old 0 finish) → new ≡ body_code shape a
put_is shape a old new finish none end is =
    let to : finish ≡ size_of a = end ∙ omega arith in
    is ∙ (λ x. none x ++ act_code shape a (record { at = length (none x); exit = 0; finish = to x }))

pub code_of_body : (shape : Shape) (a : Act) (old new : List Instr) (finish : ℕ) → ActFits shape [] a → old ≡ [] → finish ≡ 0 + size_of a → new ≡ old ++ act_code shape a (behind old 0 finish) → IsCodeOf shape a new
code_of_body shape a old new finish fits none end is =
    subst (IsCodeOf shape a) (sym (put_is shape a old new finish none end is)) (body_code_is shape a fits)

-- sound statements that nest within the limit fit
pub body_fits : (shape : Shape) (tags : List Tag) (statements : List Statement) → IsSound shape [] (acts_of tags statements) → body_nesting statements ≤ nesting_limit → ActFits shape [] (acts_of tags statements)
body_fits shape tags statements sound shallow = fits_of shape [] (acts_of tags statements) sound (stays_low tags statements shallow)
