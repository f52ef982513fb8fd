-- What a function over statements makes of each part of the grammar, where the statements inside have been replaced by
-- what it made of them: one record of steps, and the function that it gives.
use Rattle.std.specs.Prelude.{List}
use Rattle.st_tree.specs.declared.expression.Expr.{Expr}
use Rattle.st_tree.specs.declared.statement.Label.{Label}
use Rattle.st_tree.specs.declared.statement.Statement.{Statement, fold-Statement}
use Rattle.st_tree.specs.declared.statement.Branch.{Branch, fold-Branch}
use Rattle.st_tree.specs.declared.statement.Element.{Element, fold-Element}
use Rattle.st_tree.specs.declared.statement.Statement.TheOpen.{Statement-F, Branch-F, Element-F}

-- The steps. S is what is made of a statement, B of a branch of IF, and E of an element of CASE.
pub record StatementSteps (S B E : Type 0) : Type 0 where
  pub statement : Statement-F S B E → S
  -- a condition, and the statements behind THEN
  pub branch : Expr → List S → B
  -- the first label, the others, and the statements behind the colon
  pub element : Label → List Label → List S → E

-- the function over each of the three types
module _ {S B E : Type 0} (s : StatementSteps S B E) where
  abbrev pub branch_step : Branch-F S B E → B
  branch_step x = s.branch x.condition x.body

  abbrev pub element_step : Element-F S B E → E
  element_step x = s.element x.first x.more x.body

  -- a statement
  unfoldable pub fold_statement : Statement → S
  fold_statement = fold-Statement S B E s.statement branch_step element_step

  -- a condition with the statements behind THEN
  unfoldable pub fold_branch : Branch → B
  fold_branch = fold-Branch S B E s.statement branch_step element_step

  -- labels with the statements behind the colon
  unfoldable pub fold_element : Element → E
  fold_element = fold-Element S B E s.statement branch_step element_step
