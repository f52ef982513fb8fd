-- Nobody has to believe what stands here: it serves the compiler alone.
-- What the parts of a statement are in the core.
use Rattle.std.specs.Prelude.{List, [], Option, Some, None}
use Rattle.st_tree.specs.declared.statement.Statement.{Statement}
use Rattle.st_tree.specs.declared.statement.Branch.{Branch}
use Rattle.st_tree.specs.declared.statement.Element.{Element}
use Rattle.st_tree.specs.declared.tag.Tag.{Tag}
use Rattle.st_tree.specs.StatementFolds.{fold_branch, fold_element}
use Rattle.st_meaning.specs.Statements.{Guarded, Labelled, statement_parts}

-- a condition with the statements behind THEN
abbrev pub branch_in : List Tag → Branch → Guarded
branch_in tags = fold_branch (statement_parts tags)

-- labels with the statements behind the colon
abbrev pub element_in : List Tag → Element → Labelled
element_in tags = fold_element (statement_parts tags)

-- the statements behind ELSE; none where no ELSE is written
abbrev pub behind_else : Option (List Statement) → List Statement
behind_else None = []
behind_else (Some statements) = statements
