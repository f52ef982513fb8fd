-- What the function of a record of steps is at each part of the grammar, for every record.
use Rattle.std.proofs.Common.{◌≡◌, ℕ, Bool, List, map, ap, sym, ◌∙◌}
use Rattle.st_tree.specs.declared.declaration.PlacedName.{PlacedName}
use Rattle.st_tree.specs.declared.expression.Operation.{Operation}
use Rattle.st_tree.specs.declared.expression.Function.{Function}
use Rattle.st_tree.specs.declared.expression.EqualOperator.{EqualOperator}
use Rattle.st_tree.specs.declared.expression.CompareOperator.{CompareOperator}
use Rattle.st_tree.specs.declared.expression.AddOperator.{AddOperator}
use Rattle.st_tree.specs.declared.expression.MultiplyOperator.{MultiplyOperator}
use Rattle.st_tree.specs.declared.expression.Primary.{Primary, fold-roll-Primary}
use Rattle.st_tree.specs.declared.expression.Unary.{Unary, fold-roll-Unary}
use Rattle.st_tree.specs.declared.expression.Arguments.{Arguments, roll-Arguments, out-Arguments, fold-roll-Arguments, fold_out-Arguments}
use Rattle.st_tree.specs.declared.expression.Comparison.{Comparison, roll-Comparison, out-Comparison, fold-roll-Comparison, fold_out-Comparison}
use Rattle.st_tree.specs.declared.expression.Conjunction.{Conjunction, roll-Conjunction, out-Conjunction, fold-roll-Conjunction, fold_out-Conjunction}
use Rattle.st_tree.specs.declared.expression.Equality.{Equality, roll-Equality, out-Equality, fold-roll-Equality, fold_out-Equality}
use Rattle.st_tree.specs.declared.expression.Exclusive.{Exclusive, roll-Exclusive, out-Exclusive, fold-roll-Exclusive, fold_out-Exclusive}
use Rattle.st_tree.specs.declared.expression.Expr.{Expr, roll-Expr, out-Expr, fold-roll-Expr, fold_out-Expr}
use Rattle.st_tree.specs.declared.expression.Product.{Product, roll-Product, out-Product, fold-roll-Product, fold_out-Product}
use Rattle.st_tree.specs.declared.expression.Sum.{Sum, roll-Sum, out-Sum, fold-roll-Sum, fold_out-Sum}
use Rattle.st_tree.specs.declared.expression.Primary.TheVariants as p
use Rattle.st_tree.specs.declared.expression.Primary.TheVariants.{rolls-Number, rolls-Truth, rolls-Tag, rolls-Field, rolls-Element, rolls-Bracketed, rolls-Call}
use Rattle.st_tree.specs.declared.expression.Unary.TheVariants as u
use Rattle.st_tree.specs.declared.expression.Unary.TheVariants.{rolls-Plain, rolls-Minus, rolls-Not}
use Rattle.st_tree.specs.declared.expression.Primary.TheOpen.{Primary-F, Unary-F}
use Rattle.st_tree.specs.ExpressionFolds.{ExpressionSteps, fold_primary, fold_unary, fold_product, fold_sum, fold_comparison, fold_equality, fold_conjunction, fold_exclusive, fold_expr, fold_arguments, arguments_step, comparison_step, conjunction_step, equality_step, exclusive_step, expr_step, product_step, sum_step}

-- an operation with its operand replaced
abbrev pub with_operand : {O X A : Type 0} → (X → A) → Operation O X → Operation O A
with_operand f part = record { operator = part.operator; operand = f part.operand }

module _ {P A B : Type 0} (s : ExpressionSteps P A B) where
  pub at-number : (n : ℕ) (place : ℕ) → fold_primary s (p.Number n place) ≡ s.primary (Primary-F.Number n place)
  unfolding fold_primary fold_unary fold_product fold_sum fold_comparison fold_equality fold_conjunction fold_exclusive fold_expr fold_arguments
  at-number n place = ap (fold_primary s) (sym (rolls-Number n place)) ∙ fold-roll-Primary P A B A A A A A A A s.primary s.unary (arguments_step s) (comparison_step s) (conjunction_step s) (equality_step s) (exclusive_step s) (expr_step s) (product_step s) (sum_step s) (Primary-F.Number n place)

  pub at-truth : (b : Bool) (place : ℕ) → fold_primary s (p.Truth b place) ≡ s.primary (Primary-F.Truth b place)
  unfolding fold_primary fold_unary fold_product fold_sum fold_comparison fold_equality fold_conjunction fold_exclusive fold_expr fold_arguments
  at-truth b place = ap (fold_primary s) (sym (rolls-Truth b place)) ∙ fold-roll-Primary P A B A A A A A A A s.primary s.unary (arguments_step s) (comparison_step s) (conjunction_step s) (equality_step s) (exclusive_step s) (expr_step s) (product_step s) (sum_step s) (Primary-F.Truth b place)

  pub at-tag : (n : PlacedName) → fold_primary s (p.Tag n) ≡ s.primary (Primary-F.Tag n)
  unfolding fold_primary fold_unary fold_product fold_sum fold_comparison fold_equality fold_conjunction fold_exclusive fold_expr fold_arguments
  at-tag n = ap (fold_primary s) (sym (rolls-Tag n)) ∙ fold-roll-Primary P A B A A A A A A A s.primary s.unary (arguments_step s) (comparison_step s) (conjunction_step s) (equality_step s) (exclusive_step s) (expr_step s) (product_step s) (sum_step s) (Primary-F.Tag n)

  pub at-field : (n : PlacedName) (f : PlacedName) → fold_primary s (p.Field n f) ≡ s.primary (Primary-F.Field n f)
  unfolding fold_primary fold_unary fold_product fold_sum fold_comparison fold_equality fold_conjunction fold_exclusive fold_expr fold_arguments
  at-field n f = ap (fold_primary s) (sym (rolls-Field n f)) ∙ fold-roll-Primary P A B A A A A A A A s.primary s.unary (arguments_step s) (comparison_step s) (conjunction_step s) (equality_step s) (exclusive_step s) (expr_step s) (product_step s) (sum_step s) (Primary-F.Field n f)

  pub at-element : (n : PlacedName) (i : Expr) → fold_primary s (p.Element n i) ≡ s.primary (Primary-F.Element n (fold_expr s i))
  unfolding fold_primary fold_unary fold_product fold_sum fold_comparison fold_equality fold_conjunction fold_exclusive fold_expr fold_arguments
  at-element n i = ap (fold_primary s) (sym (rolls-Element n i)) ∙ fold-roll-Primary P A B A A A A A A A s.primary s.unary (arguments_step s) (comparison_step s) (conjunction_step s) (equality_step s) (exclusive_step s) (expr_step s) (product_step s) (sum_step s) (Primary-F.Element n i)

  pub at-bracketed : (place : ℕ) (e : Expr) → fold_primary s (p.Bracketed place e) ≡ s.primary (Primary-F.Bracketed place (fold_expr s e))
  unfolding fold_primary fold_unary fold_product fold_sum fold_comparison fold_equality fold_conjunction fold_exclusive fold_expr fold_arguments
  at-bracketed place e = ap (fold_primary s) (sym (rolls-Bracketed place e)) ∙ fold-roll-Primary P A B A A A A A A A s.primary s.unary (arguments_step s) (comparison_step s) (conjunction_step s) (equality_step s) (exclusive_step s) (expr_step s) (product_step s) (sum_step s) (Primary-F.Bracketed place e)

  pub at-call : (f : Function) (place : ℕ) (a : Arguments) → fold_primary s (p.Call f place a) ≡ s.primary (Primary-F.Call f place (fold_arguments s a))
  unfolding fold_primary fold_unary fold_product fold_sum fold_comparison fold_equality fold_conjunction fold_exclusive fold_expr fold_arguments
  at-call f place a = ap (fold_primary s) (sym (rolls-Call f place a)) ∙ fold-roll-Primary P A B A A A A A A A s.primary s.unary (arguments_step s) (comparison_step s) (conjunction_step s) (equality_step s) (exclusive_step s) (expr_step s) (product_step s) (sum_step s) (Primary-F.Call f place a)

  pub at-plain : (q : Primary) → fold_unary s (u.Plain q) ≡ s.unary (Unary-F.Plain (fold_primary s q))
  unfolding fold_primary fold_unary fold_product fold_sum fold_comparison fold_equality fold_conjunction fold_exclusive fold_expr fold_arguments
  at-plain q = ap (fold_unary s) (sym (rolls-Plain q)) ∙ fold-roll-Unary P A B A A A A A A A s.primary s.unary (arguments_step s) (comparison_step s) (conjunction_step s) (equality_step s) (exclusive_step s) (expr_step s) (product_step s) (sum_step s) (Unary-F.Plain q)

  pub at-minus : (place : ℕ) (q : Primary) → fold_unary s (u.Minus place q) ≡ s.unary (Unary-F.Minus place (fold_primary s q))
  unfolding fold_primary fold_unary fold_product fold_sum fold_comparison fold_equality fold_conjunction fold_exclusive fold_expr fold_arguments
  at-minus place q = ap (fold_unary s) (sym (rolls-Minus place q)) ∙ fold-roll-Unary P A B A A A A A A A s.primary s.unary (arguments_step s) (comparison_step s) (conjunction_step s) (equality_step s) (exclusive_step s) (expr_step s) (product_step s) (sum_step s) (Unary-F.Minus place q)

  pub at-not : (place : ℕ) (q : Primary) → fold_unary s (u.Not place q) ≡ s.unary (Unary-F.Not place (fold_primary s q))
  unfolding fold_primary fold_unary fold_product fold_sum fold_comparison fold_equality fold_conjunction fold_exclusive fold_expr fold_arguments
  at-not place q = ap (fold_unary s) (sym (rolls-Not place q)) ∙ fold-roll-Unary P A B A A A A A A A s.primary s.unary (arguments_step s) (comparison_step s) (conjunction_step s) (equality_step s) (exclusive_step s) (expr_step s) (product_step s) (sum_step s) (Unary-F.Not place q)

  pub out-of_product : (e : Product) → fold_product s e ≡ s.product (fold_unary s (out-Product e).first) (map (with_operand (fold_unary s)) (out-Product e).more)
  unfolding fold_primary fold_unary fold_product fold_sum fold_comparison fold_equality fold_conjunction fold_exclusive fold_expr fold_arguments
  out-of_product e = fold_out-Product P A B A A A A A A A s.primary s.unary (arguments_step s) (comparison_step s) (conjunction_step s) (equality_step s) (exclusive_step s) (expr_step s) (product_step s) (sum_step s) e

  pub at-product : (first : Unary) (more : List (Operation MultiplyOperator Unary)) → fold_product s (roll-Product (record { first = first; more = more })) ≡ s.product (fold_unary s first) (map (with_operand (fold_unary s)) more)
  unfolding fold_primary fold_unary fold_product fold_sum fold_comparison fold_equality fold_conjunction fold_exclusive fold_expr fold_arguments
  at-product first more = fold-roll-Product P A B A A A A A A A s.primary s.unary (arguments_step s) (comparison_step s) (conjunction_step s) (equality_step s) (exclusive_step s) (expr_step s) (product_step s) (sum_step s) (record { first = first; more = more })

  pub out-of_sum : (e : Sum) → fold_sum s e ≡ s.sum (fold_product s (out-Sum e).first) (map (with_operand (fold_product s)) (out-Sum e).more)
  unfolding fold_primary fold_unary fold_product fold_sum fold_comparison fold_equality fold_conjunction fold_exclusive fold_expr fold_arguments
  out-of_sum e = fold_out-Sum P A B A A A A A A A s.primary s.unary (arguments_step s) (comparison_step s) (conjunction_step s) (equality_step s) (exclusive_step s) (expr_step s) (product_step s) (sum_step s) e

  pub at-sum : (first : Product) (more : List (Operation AddOperator Product)) → fold_sum s (roll-Sum (record { first = first; more = more })) ≡ s.sum (fold_product s first) (map (with_operand (fold_product s)) more)
  unfolding fold_primary fold_unary fold_product fold_sum fold_comparison fold_equality fold_conjunction fold_exclusive fold_expr fold_arguments
  at-sum first more = fold-roll-Sum P A B A A A A A A A s.primary s.unary (arguments_step s) (comparison_step s) (conjunction_step s) (equality_step s) (exclusive_step s) (expr_step s) (product_step s) (sum_step s) (record { first = first; more = more })

  pub out-of_comparison : (e : Comparison) → fold_comparison s e ≡ s.comparison (fold_sum s (out-Comparison e).first) (map (with_operand (fold_sum s)) (out-Comparison e).more)
  unfolding fold_primary fold_unary fold_product fold_sum fold_comparison fold_equality fold_conjunction fold_exclusive fold_expr fold_arguments
  out-of_comparison e = fold_out-Comparison P A B A A A A A A A s.primary s.unary (arguments_step s) (comparison_step s) (conjunction_step s) (equality_step s) (exclusive_step s) (expr_step s) (product_step s) (sum_step s) e

  pub at-comparison : (first : Sum) (more : List (Operation CompareOperator Sum)) → fold_comparison s (roll-Comparison (record { first = first; more = more })) ≡ s.comparison (fold_sum s first) (map (with_operand (fold_sum s)) more)
  unfolding fold_primary fold_unary fold_product fold_sum fold_comparison fold_equality fold_conjunction fold_exclusive fold_expr fold_arguments
  at-comparison first more = fold-roll-Comparison P A B A A A A A A A s.primary s.unary (arguments_step s) (comparison_step s) (conjunction_step s) (equality_step s) (exclusive_step s) (expr_step s) (product_step s) (sum_step s) (record { first = first; more = more })

  pub out-of_equality : (e : Equality) → fold_equality s e ≡ s.equality (fold_comparison s (out-Equality e).first) (map (with_operand (fold_comparison s)) (out-Equality e).more)
  unfolding fold_primary fold_unary fold_product fold_sum fold_comparison fold_equality fold_conjunction fold_exclusive fold_expr fold_arguments
  out-of_equality e = fold_out-Equality P A B A A A A A A A s.primary s.unary (arguments_step s) (comparison_step s) (conjunction_step s) (equality_step s) (exclusive_step s) (expr_step s) (product_step s) (sum_step s) e

  pub at-equality : (first : Comparison) (more : List (Operation EqualOperator Comparison)) → fold_equality s (roll-Equality (record { first = first; more = more })) ≡ s.equality (fold_comparison s first) (map (with_operand (fold_comparison s)) more)
  unfolding fold_primary fold_unary fold_product fold_sum fold_comparison fold_equality fold_conjunction fold_exclusive fold_expr fold_arguments
  at-equality first more = fold-roll-Equality P A B A A A A A A A s.primary s.unary (arguments_step s) (comparison_step s) (conjunction_step s) (equality_step s) (exclusive_step s) (expr_step s) (product_step s) (sum_step s) (record { first = first; more = more })

  pub out-of_conjunction : (e : Conjunction) → fold_conjunction s e ≡ s.conjunction (fold_equality s (out-Conjunction e).first) (map (fold_equality s) (out-Conjunction e).more)
  unfolding fold_primary fold_unary fold_product fold_sum fold_comparison fold_equality fold_conjunction fold_exclusive fold_expr fold_arguments
  out-of_conjunction e = fold_out-Conjunction P A B A A A A A A A s.primary s.unary (arguments_step s) (comparison_step s) (conjunction_step s) (equality_step s) (exclusive_step s) (expr_step s) (product_step s) (sum_step s) e

  pub at-conjunction : (first : Equality) (more : List Equality) → fold_conjunction s (roll-Conjunction (record { first = first; more = more })) ≡ s.conjunction (fold_equality s first) (map (fold_equality s) more)
  unfolding fold_primary fold_unary fold_product fold_sum fold_comparison fold_equality fold_conjunction fold_exclusive fold_expr fold_arguments
  at-conjunction first more = fold-roll-Conjunction P A B A A A A A A A s.primary s.unary (arguments_step s) (comparison_step s) (conjunction_step s) (equality_step s) (exclusive_step s) (expr_step s) (product_step s) (sum_step s) (record { first = first; more = more })

  pub out-of_exclusive : (e : Exclusive) → fold_exclusive s e ≡ s.exclusive (fold_conjunction s (out-Exclusive e).first) (map (fold_conjunction s) (out-Exclusive e).more)
  unfolding fold_primary fold_unary fold_product fold_sum fold_comparison fold_equality fold_conjunction fold_exclusive fold_expr fold_arguments
  out-of_exclusive e = fold_out-Exclusive P A B A A A A A A A s.primary s.unary (arguments_step s) (comparison_step s) (conjunction_step s) (equality_step s) (exclusive_step s) (expr_step s) (product_step s) (sum_step s) e

  pub at-exclusive : (first : Conjunction) (more : List Conjunction) → fold_exclusive s (roll-Exclusive (record { first = first; more = more })) ≡ s.exclusive (fold_conjunction s first) (map (fold_conjunction s) more)
  unfolding fold_primary fold_unary fold_product fold_sum fold_comparison fold_equality fold_conjunction fold_exclusive fold_expr fold_arguments
  at-exclusive first more = fold-roll-Exclusive P A B A A A A A A A s.primary s.unary (arguments_step s) (comparison_step s) (conjunction_step s) (equality_step s) (exclusive_step s) (expr_step s) (product_step s) (sum_step s) (record { first = first; more = more })

  pub out-of_expr : (e : Expr) → fold_expr s e ≡ s.disjunction (fold_exclusive s (out-Expr e).first) (map (fold_exclusive s) (out-Expr e).more)
  unfolding fold_primary fold_unary fold_product fold_sum fold_comparison fold_equality fold_conjunction fold_exclusive fold_expr fold_arguments
  out-of_expr e = fold_out-Expr P A B A A A A A A A s.primary s.unary (arguments_step s) (comparison_step s) (conjunction_step s) (equality_step s) (exclusive_step s) (expr_step s) (product_step s) (sum_step s) e

  pub at-expr : (first : Exclusive) (more : List Exclusive) → fold_expr s (roll-Expr (record { first = first; more = more })) ≡ s.disjunction (fold_exclusive s first) (map (fold_exclusive s) more)
  unfolding fold_primary fold_unary fold_product fold_sum fold_comparison fold_equality fold_conjunction fold_exclusive fold_expr fold_arguments
  at-expr first more = fold-roll-Expr P A B A A A A A A A s.primary s.unary (arguments_step s) (comparison_step s) (conjunction_step s) (equality_step s) (exclusive_step s) (expr_step s) (product_step s) (sum_step s) (record { first = first; more = more })

  pub out-of_arguments : (e : Arguments) → fold_arguments s e ≡ s.arguments (fold_expr s (out-Arguments e).first) (map (fold_expr s) (out-Arguments e).more)
  unfolding fold_primary fold_unary fold_product fold_sum fold_comparison fold_equality fold_conjunction fold_exclusive fold_expr fold_arguments
  out-of_arguments e = fold_out-Arguments P A B A A A A A A A s.primary s.unary (arguments_step s) (comparison_step s) (conjunction_step s) (equality_step s) (exclusive_step s) (expr_step s) (product_step s) (sum_step s) e

  pub at-arguments : (first : Expr) (more : List Expr) → fold_arguments s (roll-Arguments (record { first = first; more = more })) ≡ s.arguments (fold_expr s first) (map (fold_expr s) more)
  unfolding fold_primary fold_unary fold_product fold_sum fold_comparison fold_equality fold_conjunction fold_exclusive fold_expr fold_arguments
  at-arguments first more = fold-roll-Arguments P A B A A A A A A A s.primary s.unary (arguments_step s) (comparison_step s) (conjunction_step s) (equality_step s) (exclusive_step s) (expr_step s) (product_step s) (sum_step s) (record { first = first; more = more })
