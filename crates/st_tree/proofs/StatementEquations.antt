-- What the function of a record of steps is at each part of the grammar, for every record.
use Rattle.std.proofs.Common.{◌≡◌, ℕ, List, Option, Some, None, map, ap, sym, ◌∙◌}
use Rattle.std.specs.Option.{option_map}
use Rattle.st_tree.specs.declared.declaration.PlacedName.{PlacedName}
use Rattle.st_tree.specs.declared.declaration.Integer.{Integer}
use Rattle.st_tree.specs.declared.expression.Expr.{Expr}
use Rattle.st_tree.specs.declared.statement.Assignment.{Assignment}
use Rattle.st_tree.specs.declared.statement.BlockCall.{BlockCall}
use Rattle.st_tree.specs.declared.statement.Label.{Label}
use Rattle.st_tree.specs.declared.statement.Statement.{Statement, fold-roll-Statement}
use Rattle.st_tree.specs.declared.statement.Branch.{Branch, roll-Branch, out-Branch, fold-roll-Branch, fold_out-Branch}
use Rattle.st_tree.specs.declared.statement.Element.{Element, roll-Element, out-Element, fold-roll-Element, fold_out-Element}
use Rattle.st_tree.specs.declared.statement.Statement.TheVariants as st
use Rattle.st_tree.specs.declared.statement.Statement.TheVariants.{rolls-Empty, rolls-Assignment, rolls-BlockCall, rolls-If, rolls-Case, rolls-For, rolls-Exit, rolls-Return}
use Rattle.st_tree.specs.declared.statement.Statement.TheOpen.{Statement-F}
use Rattle.st_tree.specs.StatementFolds.{StatementSteps, fold_statement, fold_branch, fold_element, branch_step, element_step}

module _ {S B E : Type 0} (s : StatementSteps S B E) where
  pub at-empty : fold_statement s st.Empty ≡ s.statement Statement-F.Empty
  unfolding fold_statement fold_branch fold_element
  at-empty = ap (fold_statement s) (sym rolls-Empty) ∙ fold-roll-Statement S B E s.statement (branch_step s) (element_step s) Statement-F.Empty

  pub at-assignment : (a : Assignment) → fold_statement s (st.Assignment a) ≡ s.statement (Statement-F.Assignment a)
  unfolding fold_statement fold_branch fold_element
  at-assignment a = ap (fold_statement s) (sym (rolls-Assignment a)) ∙ fold-roll-Statement S B E s.statement (branch_step s) (element_step s) (Statement-F.Assignment a)

  pub at-blockcall : (c : BlockCall) → fold_statement s (st.BlockCall c) ≡ s.statement (Statement-F.BlockCall c)
  unfolding fold_statement fold_branch fold_element
  at-blockcall c = ap (fold_statement s) (sym (rolls-BlockCall c)) ∙ fold-roll-Statement S B E s.statement (branch_step s) (element_step s) (Statement-F.BlockCall c)

  pub at-if : (first : Branch) (more : List Branch) (others : Option (List Statement)) → fold_statement s (st.If first more others)
      ≡ s.statement (Statement-F.If (fold_branch s first) (map (fold_branch s) more) (option_map (map (fold_statement s)) others))
  unfolding fold_statement fold_branch fold_element
  at-if first more None = ap (fold_statement s) (sym (rolls-If first more None)) ∙ fold-roll-Statement S B E s.statement (branch_step s) (element_step s) (Statement-F.If first more None)
  at-if first more (Some body) = ap (fold_statement s) (sym (rolls-If first more (Some body))) ∙ fold-roll-Statement S B E s.statement (branch_step s) (element_step s) (Statement-F.If first more (Some body))

  pub at-case : (selector : Expr) (first : Element) (more : List Element) (others : Option (List Statement)) → fold_statement s (st.Case selector first more others)
      ≡ s.statement (Statement-F.Case selector (fold_element s first) (map (fold_element s) more) (option_map (map (fold_statement s)) others))
  unfolding fold_statement fold_branch fold_element
  at-case selector first more None = ap (fold_statement s) (sym (rolls-Case selector first more None)) ∙ fold-roll-Statement S B E s.statement (branch_step s) (element_step s) (Statement-F.Case selector first more None)
  at-case selector first more (Some body) = ap (fold_statement s) (sym (rolls-Case selector first more (Some body))) ∙ fold-roll-Statement S B E s.statement (branch_step s) (element_step s) (Statement-F.Case selector first more (Some body))

  pub at-for : (tag : PlacedName) (first last : Integer) (step : Option Integer) (body : List Statement) → fold_statement s (st.For tag first last step body)
      ≡ s.statement (Statement-F.For tag first last step (map (fold_statement s) body))
  unfolding fold_statement fold_branch fold_element
  at-for tag first last step body = ap (fold_statement s) (sym (rolls-For tag first last step body)) ∙ fold-roll-Statement S B E s.statement (branch_step s) (element_step s) (Statement-F.For tag first last step body)

  pub at-exit : (place : ℕ) → fold_statement s (st.Exit place) ≡ s.statement (Statement-F.Exit place)
  unfolding fold_statement fold_branch fold_element
  at-exit place = ap (fold_statement s) (sym (rolls-Exit place)) ∙ fold-roll-Statement S B E s.statement (branch_step s) (element_step s) (Statement-F.Exit place)

  pub at-return : fold_statement s st.Return ≡ s.statement Statement-F.Return
  unfolding fold_statement fold_branch fold_element
  at-return = ap (fold_statement s) (sym rolls-Return) ∙ fold-roll-Statement S B E s.statement (branch_step s) (element_step s) Statement-F.Return

  pub out-of_branch : (b : Branch) → fold_branch s b ≡ s.branch (out-Branch b).condition (map (fold_statement s) (out-Branch b).body)
  unfolding fold_statement fold_branch fold_element
  out-of_branch b = fold_out-Branch S B E s.statement (branch_step s) (element_step s) b

  pub at-branch : (condition : Expr) (body : List Statement) → fold_branch s (roll-Branch (record { condition = condition; body = body })) ≡ s.branch condition (map (fold_statement s) body)
  unfolding fold_statement fold_branch fold_element
  at-branch condition body = fold-roll-Branch S B E s.statement (branch_step s) (element_step s) (record { condition = condition; body = body })

  pub out-of_element : (e : Element) → fold_element s e ≡ s.element (out-Element e).first (out-Element e).more (map (fold_statement s) (out-Element e).body)
  unfolding fold_statement fold_branch fold_element
  out-of_element e = fold_out-Element S B E s.statement (branch_step s) (element_step s) e

  pub at-element : (first : Label) (more : List Label) (body : List Statement) → fold_element s (roll-Element (record { first = first; more = more; body = body })) ≡ s.element first more (map (fold_statement s) body)
  unfolding fold_statement fold_branch fold_element
  at-element first more body = fold-roll-Element S B E s.statement (branch_step s) (element_step s) (record { first = first; more = more; body = body })
