-- What each statement is, by its parts.
use Rattle.std.proofs.Common.{◌≡◌, ℕ, List, ◌∷◌, map, Option, None, Some, refl, ap, ◌∙◌}
use Rattle.std.specs.Option.{option_map}
use Rattle.function_blocks.specs.declared.kinds.Kind.TheVariants as k
use Rattle.st_tree.specs.declared.declaration.PlacedName.{PlacedName}
use Rattle.st_tree.specs.declared.declaration.Integer.{Integer}
use Rattle.st_tree.specs.declared.expression.Expr.{Expr}
use Rattle.st_tree.specs.declared.statement.Assignment.{Assignment}
use Rattle.st_tree.specs.declared.statement.BlockCall.{BlockCall}
use Rattle.st_tree.specs.declared.statement.Statement.{Statement}
use Rattle.st_tree.specs.declared.statement.Statement.TheVariants as s
use Rattle.st_tree.specs.declared.statement.Branch.{Branch, out-Branch}
use Rattle.st_tree.specs.declared.statement.Element.{Element, out-Element}
use Rattle.st_tree.specs.declared.tag.Tag.{Tag}
use Rattle.st_tree.specs.Integers.{integer_value}
use Rattle.st_tree.proofs.StatementEquations.{at-empty, at-assignment, at-blockcall, at-if, at-case, at-for, at-exit, at-return, out-of_branch, out-of_element}
use Rattle.st_core.specs.Core as c
use Rattle.st_meaning.specs.Types.{type_of, word_type}
use Rattle.st_meaning.specs.Expressions.{term_of, integer_of}
use Rattle.st_meaning.specs.Statements.{choice, in_order, otherwise, assignment, block_call, guarded, range_of, step_of, statement_parts, act_of, acts_of}
use Rattle.code_size.specs.Inner.Parts.{branch_in, element_in, behind_else}

module _ (tags : List Tag) where
  pub empty-is : act_of tags s.Empty ≡ c.Skip
  unfolding act_of
  empty-is = at-empty (statement_parts tags)

  pub assignment-is : (a : Assignment) → act_of tags (s.Assignment a) ≡ assignment tags a
  unfolding act_of
  assignment-is a = at-assignment (statement_parts tags) a

  pub block-call-is : (call : BlockCall) → act_of tags (s.BlockCall call) ≡ block_call tags call
  unfolding act_of
  block-call-is call = at-blockcall (statement_parts tags) call

  else-is : (others : Option (List Statement)) → otherwise (option_map (map (act_of tags)) others) ≡ acts_of tags (behind_else others)
  unfolding in_order
  else-is None = refl
  else-is (Some statements) = refl

  if-parts : (first : Branch) (more : List Branch) (others : Option (List Statement)) → act_of tags (s.If first more others) ≡ choice (branch_in tags first ∷ map (branch_in tags) more) (otherwise (option_map (map (act_of tags)) others))
  unfolding act_of
  if-parts first more others = at-if (statement_parts tags) first more others

  pub if-is : (first : Branch) (more : List Branch) (others : Option (List Statement)) → act_of tags (s.If first more others) ≡ choice (branch_in tags first ∷ map (branch_in tags) more) (acts_of tags (behind_else others))
  if-is first more others = if-parts first more others ∙ ap (choice (branch_in tags first ∷ map (branch_in tags) more)) (else-is others)

  case-parts : (selector : Expr) (first : Element) (more : List Element) (others : Option (List Statement))
      → act_of tags (s.Case selector first more others) ≡ choice (map (guarded (integer_of tags selector)) (element_in tags first ∷ map (element_in tags) more)) (otherwise (option_map (map (act_of tags)) others))
  unfolding act_of
  case-parts selector first more others = at-case (statement_parts tags) selector first more others

  pub case-is : (selector : Expr) (first : Element) (more : List Element) (others : Option (List Statement))
      → act_of tags (s.Case selector first more others) ≡ choice (map (guarded (integer_of tags selector)) (element_in tags first ∷ map (element_in tags) more)) (acts_of tags (behind_else others))
  case-is selector first more others = case-parts selector first more others ∙ ap (choice (map (guarded (integer_of tags selector)) (element_in tags first ∷ map (element_in tags) more))) (else-is others)

  pub for-is : (n : PlacedName) (first last : Integer) (step : Option Integer) (body : List Statement)
      → act_of tags (s.For n first last step body) ≡ c.For n.name (word_type (type_of tags n.name)) (integer_value first) (integer_value last) (step_of step) (acts_of tags body)
  unfolding act_of
  for-is n first last step body = at-for (statement_parts tags) n first last step body

  pub exit-is : (place : ℕ) → act_of tags (s.Exit place) ≡ c.Exit
  unfolding act_of
  exit-is place = at-exit (statement_parts tags) place

  pub return-is : act_of tags s.Return ≡ c.Return
  unfolding act_of
  return-is = at-return (statement_parts tags)

  pub branch-out : (b : Branch) → branch_in tags b ≡ record { condition = term_of tags k.Bool (out-Branch b).condition; body = acts_of tags (out-Branch b).body }
  unfolding act_of
  branch-out b = out-of_branch (statement_parts tags) b

  pub element-out : (e : Element) → element_in tags e ≡ record { first = range_of (out-Element e).first; more = map range_of (out-Element e).more; body = acts_of tags (out-Element e).body }
  unfolding act_of
  element-out e = out-of_element (statement_parts tags) e
