-- What each part of an expression is, by its parts.
use Rattle.std.proofs.Common.{◌≡◌, ℕ, pos, Bool, List, ◌∷◌, map, fold, Some, None, ◌∙◌}
use Rattle.std.proofs.lemmas.List.Folds.{fold-map}
use Rattle.st_tree.specs.declared.declaration.PlacedName.{PlacedName}
use Rattle.st_tree.specs.declared.expression.Function.{Function}
use Rattle.st_tree.specs.declared.expression.Expr.{Expr, out-Expr}
use Rattle.st_tree.specs.declared.expression.Exclusive.{Exclusive, out-Exclusive}
use Rattle.st_tree.specs.declared.expression.Conjunction.{Conjunction, out-Conjunction}
use Rattle.st_tree.specs.declared.expression.Equality.{Equality, out-Equality}
use Rattle.st_tree.specs.declared.expression.Comparison.{Comparison, out-Comparison}
use Rattle.st_tree.specs.declared.expression.Sum.{Sum, out-Sum}
use Rattle.st_tree.specs.declared.expression.Product.{Product, out-Product}
use Rattle.st_tree.specs.declared.expression.Unary.TheVariants as u
use Rattle.st_tree.specs.declared.expression.Primary.{Primary}
use Rattle.st_tree.specs.declared.expression.Primary.TheVariants as p
use Rattle.st_tree.specs.declared.expression.Arguments.{Arguments, out-Arguments}
use Rattle.st_tree.specs.declared.tag.Tag.{Tag}
use Rattle.st_tree.proofs.ExpressionEquations.{with_operand, at-number, at-truth, at-tag, at-field, at-element, at-bracketed, at-call, at-plain, at-minus, at-not, out-of_product, out-of_sum, out-of_comparison, out-of_equality, out-of_conjunction, out-of_exclusive, out-of_expr, out-of_arguments}
use Rattle.function_blocks.specs.declared.kinds.Kind.TheVariants as k
use Rattle.function_blocks.specs.Values.{number}
use Rattle.st_core.specs.Core as c
use Rattle.st_meaning.specs.Types.{type_of}
use Rattle.st_meaning.specs.Expressions.{constant, tag, block_field, array_element, function_call, logic, more_equal, more_compare, more_add, more_multiply, expression_parts, elaborated}
use Rattle.code_size.specs.Inner.Ranks.{exclusive_in, conjunction_in, equality_in, comparison_in, sum_in, product_in, unary_in, primary_in, arguments_in}

module _ (tags : List Tag) where
  pub expr-out : (e : Expr) → elaborated tags e ≡ fold (λ a x. logic c.Or a (exclusive_in tags x)) (exclusive_in tags (out-Expr e).first) (out-Expr e).more
  unfolding elaborated
  expr-out e = out-of_expr (expression_parts tags) e ∙ fold-map (logic c.Or) (exclusive_in tags) (exclusive_in tags (out-Expr e).first) (out-Expr e).more

  pub exclusive-out : (e : Exclusive) → exclusive_in tags e ≡ fold (λ a x. logic c.Xor a (conjunction_in tags x)) (conjunction_in tags (out-Exclusive e).first) (out-Exclusive e).more
  exclusive-out e = out-of_exclusive (expression_parts tags) e ∙ fold-map (logic c.Xor) (conjunction_in tags) (conjunction_in tags (out-Exclusive e).first) (out-Exclusive e).more

  pub conjunction-out : (e : Conjunction) → conjunction_in tags e ≡ fold (λ a x. logic c.And a (equality_in tags x)) (equality_in tags (out-Conjunction e).first) (out-Conjunction e).more
  conjunction-out e = out-of_conjunction (expression_parts tags) e ∙ fold-map (logic c.And) (equality_in tags) (equality_in tags (out-Conjunction e).first) (out-Conjunction e).more

  pub equality-out : (e : Equality) → equality_in tags e ≡ fold (λ a x. more_equal a (with_operand (comparison_in tags) x)) (comparison_in tags (out-Equality e).first) (out-Equality e).more
  equality-out e = out-of_equality (expression_parts tags) e ∙ fold-map more_equal (with_operand (comparison_in tags)) (comparison_in tags (out-Equality e).first) (out-Equality e).more

  pub comparison-out : (e : Comparison) → comparison_in tags e ≡ fold (λ a x. more_compare a (with_operand (sum_in tags) x)) (sum_in tags (out-Comparison e).first) (out-Comparison e).more
  comparison-out e = out-of_comparison (expression_parts tags) e ∙ fold-map more_compare (with_operand (sum_in tags)) (sum_in tags (out-Comparison e).first) (out-Comparison e).more

  pub sum-out : (e : Sum) → sum_in tags e ≡ fold (λ a x. more_add a (with_operand (product_in tags) x)) (product_in tags (out-Sum e).first) (out-Sum e).more
  sum-out e = out-of_sum (expression_parts tags) e ∙ fold-map more_add (with_operand (product_in tags)) (product_in tags (out-Sum e).first) (out-Sum e).more

  pub product-out : (e : Product) → product_in tags e ≡ fold (λ a x. more_multiply a (with_operand (unary_in tags) x)) (unary_in tags (out-Product e).first) (out-Product e).more
  product-out e = out-of_product (expression_parts tags) e ∙ fold-map more_multiply (with_operand (unary_in tags)) (unary_in tags (out-Product e).first) (out-Product e).more

  pub plain-is : (a : Primary) → unary_in tags (u.Plain a) ≡ primary_in tags a
  plain-is a = at-plain (expression_parts tags) a

  pub minus-is : (place : ℕ) (a : Primary) → unary_in tags (u.Minus place a) ≡ record { own = (primary_in tags a).own; asked = λ asked. c.Unary (c.Negate asked) ((primary_in tags a).asked asked) }
  minus-is place a = at-minus (expression_parts tags) place a

  pub not-is : (place : ℕ) (a : Primary) → unary_in tags (u.Not place a) ≡ record { own = Some k.Bool; asked = λ _. c.Unary c.Not ((primary_in tags a).asked k.Bool) }
  not-is place a = at-not (expression_parts tags) place a

  pub number-is : (n place : ℕ) → primary_in tags (p.Number n place) ≡ constant None (pos n)
  number-is n place = at-number (expression_parts tags) n place

  pub truth-is : (b : Bool) (place : ℕ) → primary_in tags (p.Truth b place) ≡ constant (Some k.Bool) (number b)
  truth-is b place = at-truth (expression_parts tags) b place

  pub tag-is : (n : PlacedName) → primary_in tags (p.Tag n) ≡ tag n.name (type_of tags n.name)
  tag-is n = at-tag (expression_parts tags) n

  pub field-is : (n field : PlacedName) → primary_in tags (p.Field n field) ≡ block_field n.name (type_of tags n.name) field.name
  field-is n field = at-field (expression_parts tags) n field

  pub element-is : (n : PlacedName) (index : Expr) → primary_in tags (p.Element n index) ≡ array_element n.name (type_of tags n.name) (elaborated tags index)
  unfolding elaborated
  element-is n index = at-element (expression_parts tags) n index

  pub bracketed-is : (place : ℕ) (e : Expr) → primary_in tags (p.Bracketed place e) ≡ elaborated tags e
  unfolding elaborated
  bracketed-is place e = at-bracketed (expression_parts tags) place e

  pub call-is : (f : Function) (place : ℕ) (arguments : Arguments) → primary_in tags (p.Call f place arguments) ≡ function_call f (arguments_in tags arguments)
  call-is f place arguments = at-call (expression_parts tags) f place arguments

  pub arguments-out : (e : Arguments) → arguments_in tags e ≡ elaborated tags (out-Arguments e).first ∷ map (elaborated tags) (out-Arguments e).more
  unfolding elaborated
  arguments-out e = out-of_arguments (expression_parts tags) e
