use Rattle.std.proofs.Common.{◌≤◌, sym, subst}
use Rattle.st_tree.specs.Typing.TypedPrograms.{TypedProgram}
use Rattle.st_tree.specs.Nesting.{nesting_limit}
use Rattle.st_tree.specs.TreeNesting.{body_nesting}
use Rattle.code_tests.proofs.Shallow.{shallow}
use Rattle.code_tests.proofs.tests.typed.Goals as goal

pub returns-in-Ok-check : goal.returns-in-Ok-check
returns-in-Ok-check c =
    let read = c.in-Ok-read_program.ensures.answer in
    subst (λ (t : TypedProgram). body_nesting t.tree.statements ≤ nesting_limit) (sym c.in-Ok-check.ensures.0) (shallow _ _ read.0 read.1)
