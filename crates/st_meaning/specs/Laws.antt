-- What holds of all programs.
use Rattle.std.specs.Prelude.{◌≤◌, List}
use Rattle.st_tree.specs.declared.statement.Statement.{Statement}
use Rattle.st_tree.specs.declared.tag.Tag.{Tag}
use Rattle.st_tree.specs.Nesting.{nesting_limit}
use Rattle.st_tree.specs.TreeNesting.{body_nesting}
use Rattle.st_core.specs.Fits.{StaysLow}
use Rattle.st_meaning.specs.Statements.{acts_of}

-- Statements that nest no deeper than the limit have no term with too many operands waiting.
abbrev pub StaysLowWhereShallow : Type 0
StaysLowWhereShallow =
    (tags : List Tag) → (statements : List Statement) → body_nesting statements ≤ nesting_limit
    → StaysLow (acts_of tags statements)
