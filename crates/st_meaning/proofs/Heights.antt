-- How many operands an expression has waiting, by its nesting.
use Rattle.std.proofs.Common.{◌≡◌, ℕ, ◌+◌, ◌*◌, ◌≤◌, max, ℤ, pos, List, [], ◌∷◌, map, fold, arith, refl, ap, sym, ◌∙◌, subst}
use Rattle.st_tree.specs.declared.expression.Operation.{Operation}
use Rattle.st_tree.specs.declared.expression.EqualOperator.{EqualOperator}
use Rattle.st_tree.specs.declared.expression.CompareOperator.{CompareOperator}
use Rattle.st_tree.specs.declared.expression.AddOperator.{AddOperator}
use Rattle.st_tree.specs.declared.expression.MultiplyOperator.{MultiplyOperator}
use Rattle.st_tree.specs.declared.expression.Function.{Function}
use Rattle.st_tree.specs.declared.expression.Primary.{Primary, roll-Primary, map-Primary}
use Rattle.st_tree.specs.declared.expression.Unary.{Unary, roll-Unary, map-Unary}
use Rattle.st_tree.specs.declared.expression.Arguments.{Arguments, roll-Arguments, map-Arguments}
use Rattle.st_tree.specs.declared.expression.Comparison.{Comparison, roll-Comparison, map-Comparison}
use Rattle.st_tree.specs.declared.expression.Conjunction.{Conjunction, roll-Conjunction, map-Conjunction}
use Rattle.st_tree.specs.declared.expression.Equality.{Equality, roll-Equality, map-Equality}
use Rattle.st_tree.specs.declared.expression.Exclusive.{Exclusive, roll-Exclusive, map-Exclusive}
use Rattle.st_tree.specs.declared.expression.Expr.{Expr, roll-Expr, map-Expr, ind-Expr}
use Rattle.st_tree.specs.declared.expression.Product.{Product, roll-Product, map-Product}
use Rattle.st_tree.specs.declared.expression.Sum.{Sum, roll-Sum, map-Sum}
use Rattle.st_tree.specs.declared.expression.Primary.TheVariants.{rolls-Number, rolls-Truth, rolls-Tag, rolls-Field, rolls-Element, rolls-Bracketed, rolls-Call}
use Rattle.st_tree.specs.declared.expression.Unary.TheVariants.{rolls-Plain, rolls-Minus, rolls-Not}
use Rattle.st_tree.specs.declared.expression.Primary.TheOpen.{Primary-F, Unary-F, Arguments-F, Comparison-F, Conjunction-F, Equality-F, Exclusive-F, Expr-F, Product-F, Sum-F}
use Rattle.st_tree.specs.declared.tag.Tag.{Tag}
use Rattle.st_tree.specs.Listed.{operands}
use Rattle.st_tree.specs.ExpressionFolds.{fold_primary, fold_unary, fold_arguments, fold_comparison, fold_conjunction, fold_equality, fold_exclusive, fold_expr, fold_product, fold_sum}
use Rattle.st_tree.specs.TreeNesting.{expression_nestings, expr_nesting}
use Rattle.st_tree.proofs.ExpressionEquations.{with_operand, at-number, at-truth, at-tag, at-field, at-element, at-bracketed, at-call, at-plain, at-minus, at-not, at-arguments, at-comparison, at-conjunction, at-equality, at-exclusive, at-expr, at-product, at-sum}
use Rattle.function_blocks.specs.declared.kinds.Kind.{Kind}
use Rattle.function_blocks.specs.declared.kinds.Kind.TheVariants as kind
use Rattle.function_blocks.specs.Values.{number}
use Rattle.st_core.specs.Core.{Name, UnaryOperator, BinaryOperator, Term}
use Rattle.st_core.specs.Core as c
use Rattle.st_core.specs.Fits.{height_of}
use Rattle.st_meaning.specs.Types.{type_of, word_type, element_type, low_bound, high_bound, block_of, field_place, field_type}
use Rattle.st_meaning.specs.Functions.{Operator, OneOperand, TwoOperands, ThreeOperands, operator_of, combined, first_asked}
use Rattle.st_meaning.specs.Expressions.{Elaborated, settled, common, argument_asked, function_call, logic, equal_operator, compare_operator, add_operator, multiply_operator, more_equal, more_compare, more_add, more_multiply, expression_parts, elaborated}

-- ---- the height of each sort of term

literal_height : (v : ℤ) → height_of (c.Literal v) ≡ 1
unfolding height_of
literal_height v = refl

field_height : (n : Name) (place : ℕ) (k : Kind) → height_of (c.Field n place k) ≡ 1
unfolding height_of
field_height n place k = refl

element_height : (n : Name) (k : Kind) (low high : ℤ) (t : Term) → height_of (c.Element n k low high t) ≡ height_of t
unfolding height_of
element_height n k low high t = refl

unary_height : (o : UnaryOperator) (t : Term) → height_of (c.Unary o t) ≡ height_of t
unfolding height_of
unary_height o t = refl

binary_height : (o : BinaryOperator) (t u : Term) → height_of (c.Binary o t u) ≡ max (height_of t) (height_of u + 1)
unfolding height_of
binary_height o t u = refl

ternary_height : (o : c.TernaryOperator) (t u w : Term) → height_of (c.Ternary o t u w) ≡ max (height_of t) (max (height_of u + 1) (height_of w + 2))
unfolding height_of
ternary_height o t u w = refl

-- ---- functions

unfoldable AreLow : ℕ → List Term → Type 0
AreLow h [] = Unit {0}
AreLow h (t ∷ ts) = (height_of t ≤ h) × AreLow h ts

-- a function has two operands more waiting than its arguments
combined_low : (h : ℕ) (o : Operator) (t : Term) (us : List Term) → height_of t ≤ h → AreLow h us → height_of (combined o t us) ≤ h + 2
unfolding combined AreLow
combined_low h (OneOperand o) t [] first more = omega (arith, first, unary_height o t)
combined_low h (OneOperand o) t (u ∷ us) first more = omega (arith, literal_height (pos 0))
combined_low h (TwoOperands o) t [] first more = omega (arith, literal_height (pos 0))
combined_low h (TwoOperands o) t (u ∷ []) first more = omega (arith, first, more.0, binary_height o t u)
combined_low h (TwoOperands o) t (u ∷ w ∷ us) first more = omega (arith, literal_height (pos 0))
combined_low h (ThreeOperands o) t [] first more = omega (arith, literal_height (pos 0))
combined_low h (ThreeOperands o) t (u ∷ []) first more = omega (arith, literal_height (pos 0))
combined_low h (ThreeOperands o) t (u ∷ w ∷ []) first more = omega (arith, first, more.0, more.1.0, ternary_height o t u w)
combined_low h (ThreeOperands o) t (u ∷ w ∷ x ∷ us) first more = omega (arith, literal_height (pos 0))

-- ---- expressions

-- ten for each level at most, and so many more
abbrev pub Low : ℕ → Elaborated → ℕ → Type 0
Low more e depth = (k : Kind) → height_of (e.asked k) ≤ 10 * depth + more

low_to : (r : ℕ) (i j : Elaborated) (m n : ℕ) → i ≡ j → m ≡ n → Low r j n → Low r i m
low_to r i j m n e f h = subst (λ (x : Elaborated). Low r x m) (sym e) (subst (λ x. Low r j x) (sym f) h)

low_more : (r : ℕ) (j : Elaborated) (n : ℕ) → Low r j n → Low (r + 1) j n
low_more r j n h = λ k. omega (arith, h k)

-- what two operands in a row are: a term of an operator
record Pairs (a : Elaborated) (b : Elaborated) (both : Elaborated) (k : Kind) : Type 0 where
  left : Kind
  right : Kind
  operator : BinaryOperator
  is : both.asked k ≡ c.Binary operator (a.asked left) (b.asked right)

pair_low : (r : ℕ) (a b both : Elaborated) (m n : ℕ) → ((k : Kind) → Pairs a b both k) → Low (r + 1) a m → Low r b n → Low (r + 1) both (max m n)
pair_low r a b both m n pairs h g = λ k.
    let p = pairs k in
    let e = ap height_of p.is ∙ binary_height p.operator (a.asked p.left) (b.asked p.right) in
    omega (arith, e, h p.left, g p.right)

-- operands in a row, each behind an operator
row_low : {O T : Type 0} (step : Elaborated → Operation O Elaborated → Elaborated) (e : T → Elaborated) (depth : T → ℕ) (r : ℕ)
    → ((a : Elaborated) (x : Operation O Elaborated) (k : Kind) → Pairs a x.operand (step a x) k)
    → (more : List (Operation O ((x : T) × Low r (e x) (depth x)))) (a : Elaborated) (m : ℕ) → Low (r + 1) a m
    → Low (r + 1) (fold step a (map (with_operand e) (map (with_operand (λ (q : (x : T) × Low r (e x) (depth x)). q.0)) more)))
    (fold max m (operands (map (with_operand depth) (map (with_operand (λ (q : (x : T) × Low r (e x) (depth x)). q.0)) more))))
row_low {O = O} step e depth r pairs [] a m h = h
row_low {O = O} step e depth r pairs (x ∷ xs) a m h =
    let here : Operation O Elaborated = record { operator = x.operator; operand = e x.operand.0 } in
    row_low step e depth r pairs xs (step a here) (max m (depth x.operand.0))
    (pair_low r a (e x.operand.0) (step a here) m (depth x.operand.0) (pairs a here) h x.operand.1)

-- operands in a row of one operator
plain_low : {T : Type 0} (step : Elaborated → Elaborated → Elaborated) (e : T → Elaborated) (depth : T → ℕ) (r : ℕ)
    → ((a x : Elaborated) (k : Kind) → Pairs a x (step a x) k)
    → (more : List ((x : T) × Low r (e x) (depth x))) (a : Elaborated) (m : ℕ) → Low (r + 1) a m
    → Low (r + 1) (fold step a (map e (map (λ (q : (x : T) × Low r (e x) (depth x)). q.0) more)))
    (fold max m (map depth (map (λ (q : (x : T) × Low r (e x) (depth x)). q.0) more)))
plain_low step e depth r pairs [] a m h = h
plain_low step e depth r pairs (x ∷ xs) a m h =
    plain_low step e depth r pairs xs (step a (e x.0)) (max m (depth x.0))
    (pair_low r a (e x.0) (step a (e x.0)) m (depth x.0) (pairs a (e x.0)) h x.1)

unfoldable AllLow : ℕ → List Elaborated → ℕ → Type 0
AllLow r [] d = Unit {0}
AllLow r (j ∷ js) d = Low r j d × AllLow r js d

all_asked : (js : List Elaborated) (d : ℕ) (k : Kind) → AllLow 8 js d → AreLow (10 * d + 8) (map (argument_asked k) js)
unfolding AllLow AreLow
all_asked [] d k h = tt
all_asked (j ∷ js) d k h = (h.0 k, all_asked js d k h.1)

-- a call is one level more, which has room for two operands
call_low : (f : Function) (js : List Elaborated) (d : ℕ) → AllLow 8 js d → Low 1 (function_call f js) (d + 1)
unfolding AllLow
call_low f [] d h = λ k. omega (arith, literal_height (pos 0))
call_low f (j ∷ js) d h = λ k. omega (arith, combined_low (10 * d + 8) (operator_of f k) (j.asked (first_asked f k)) (map (argument_asked k) js) (h.0 (first_asked f k)) (all_asked js d k h.1))

module _ (tags : List Tag) where
  abbrev E : Expr → Elaborated
  E = fold_expr (expression_parts tags)

  abbrev OfPrimary : Primary → Type 0
  OfPrimary x = Low 1 (fold_primary (expression_parts tags) x) (fold_primary expression_nestings x)

  abbrev PPrimary : Type 0
  PPrimary = (x : Primary) × OfPrimary x

  abbrev OfUnary : Unary → Type 0
  OfUnary x = Low 1 (fold_unary (expression_parts tags) x) (fold_unary expression_nestings x)

  abbrev PUnary : Type 0
  PUnary = (x : Unary) × OfUnary x

  abbrev OfArguments : Arguments → Type 0
  OfArguments x = AllLow 8 (fold_arguments (expression_parts tags) x) (fold_arguments expression_nestings x)

  abbrev PArguments : Type 0
  PArguments = (x : Arguments) × OfArguments x

  abbrev OfComparison : Comparison → Type 0
  OfComparison x = Low 4 (fold_comparison (expression_parts tags) x) (fold_comparison expression_nestings x)

  abbrev PComparison : Type 0
  PComparison = (x : Comparison) × OfComparison x

  abbrev OfConjunction : Conjunction → Type 0
  OfConjunction x = Low 6 (fold_conjunction (expression_parts tags) x) (fold_conjunction expression_nestings x)

  abbrev PConjunction : Type 0
  PConjunction = (x : Conjunction) × OfConjunction x

  abbrev OfEquality : Equality → Type 0
  OfEquality x = Low 5 (fold_equality (expression_parts tags) x) (fold_equality expression_nestings x)

  abbrev PEquality : Type 0
  PEquality = (x : Equality) × OfEquality x

  abbrev OfExclusive : Exclusive → Type 0
  OfExclusive x = Low 7 (fold_exclusive (expression_parts tags) x) (fold_exclusive expression_nestings x)

  abbrev PExclusive : Type 0
  PExclusive = (x : Exclusive) × OfExclusive x

  abbrev OfExpr : Expr → Type 0
  OfExpr x = Low 8 (fold_expr (expression_parts tags) x) (fold_expr expression_nestings x)

  abbrev PExpr : Type 0
  PExpr = (x : Expr) × OfExpr x

  abbrev OfProduct : Product → Type 0
  OfProduct x = Low 2 (fold_product (expression_parts tags) x) (fold_product expression_nestings x)

  abbrev PProduct : Type 0
  PProduct = (x : Product) × OfProduct x

  abbrev OfSum : Sum → Type 0
  OfSum x = Low 3 (fold_sum (expression_parts tags) x) (fold_sum expression_nestings x)

  abbrev PSum : Type 0
  PSum = (x : Sum) × OfSum x

  of_product : (first : PUnary) (more : List (Operation MultiplyOperator PUnary)) → OfProduct (roll-Product (record { first = first.0; more = map (with_operand (λ (q : PUnary). q.0)) more }))
  of_product first more =
      let others : List (Operation MultiplyOperator Unary) = map (with_operand (λ (q : PUnary). q.0)) more in
      low_to 2 _ _ _ _ (at-product (expression_parts tags) first.0 others) (at-product expression_nestings first.0 others)
      (row_low more_multiply (fold_unary (expression_parts tags)) (fold_unary expression_nestings) 1 (λ a x k. record { left = k; right = k; operator = multiply_operator x.operator k; is = refl }) more
      (fold_unary (expression_parts tags) first.0) (fold_unary expression_nestings first.0) (low_more 1 (fold_unary (expression_parts tags) first.0) (fold_unary expression_nestings first.0) first.1))

  of_product_layer : (x : Product-F Primary Unary Arguments Comparison Conjunction Equality Exclusive Expr Product Sum) (y : Product-F PPrimary PUnary PArguments PComparison PConjunction PEquality PExclusive PExpr PProduct PSum) → map-Product PPrimary PUnary PArguments PComparison PConjunction PEquality PExclusive PExpr PProduct PSum Primary Unary Arguments Comparison Conjunction Equality Exclusive Expr Product Sum (λ q. q.0) (λ q. q.0) (λ q. q.0) (λ q. q.0) (λ q. q.0) (λ q. q.0) (λ q. q.0) (λ q. q.0) (λ q. q.0) (λ q. q.0) y ≡ x → OfProduct (roll-Product x)
  of_product_layer x y is = subst (λ z. OfProduct (roll-Product z)) is (of_product y.first y.more)

  of_sum : (first : PProduct) (more : List (Operation AddOperator PProduct)) → OfSum (roll-Sum (record { first = first.0; more = map (with_operand (λ (q : PProduct). q.0)) more }))
  of_sum first more =
      let others : List (Operation AddOperator Product) = map (with_operand (λ (q : PProduct). q.0)) more in
      low_to 3 _ _ _ _ (at-sum (expression_parts tags) first.0 others) (at-sum expression_nestings first.0 others)
      (row_low more_add (fold_product (expression_parts tags)) (fold_product expression_nestings) 2 (λ a x k. record { left = k; right = k; operator = add_operator x.operator k; is = refl }) more
      (fold_product (expression_parts tags) first.0) (fold_product expression_nestings first.0) (low_more 2 (fold_product (expression_parts tags) first.0) (fold_product expression_nestings first.0) first.1))

  of_sum_layer : (x : Sum-F Primary Unary Arguments Comparison Conjunction Equality Exclusive Expr Product Sum) (y : Sum-F PPrimary PUnary PArguments PComparison PConjunction PEquality PExclusive PExpr PProduct PSum) → map-Sum PPrimary PUnary PArguments PComparison PConjunction PEquality PExclusive PExpr PProduct PSum Primary Unary Arguments Comparison Conjunction Equality Exclusive Expr Product Sum (λ q. q.0) (λ q. q.0) (λ q. q.0) (λ q. q.0) (λ q. q.0) (λ q. q.0) (λ q. q.0) (λ q. q.0) (λ q. q.0) (λ q. q.0) y ≡ x → OfSum (roll-Sum x)
  of_sum_layer x y is = subst (λ z. OfSum (roll-Sum z)) is (of_sum y.first y.more)

  of_comparison : (first : PSum) (more : List (Operation CompareOperator PSum)) → OfComparison (roll-Comparison (record { first = first.0; more = map (with_operand (λ (q : PSum). q.0)) more }))
  of_comparison first more =
      let others : List (Operation CompareOperator Sum) = map (with_operand (λ (q : PSum). q.0)) more in
      low_to 4 _ _ _ _ (at-comparison (expression_parts tags) first.0 others) (at-comparison expression_nestings first.0 others)
      (row_low more_compare (fold_sum (expression_parts tags)) (fold_sum expression_nestings) 3 (λ a x k. record { left = settled (common a.own x.operand.own); right = settled (common a.own x.operand.own); operator = compare_operator x.operator; is = refl }) more
      (fold_sum (expression_parts tags) first.0) (fold_sum expression_nestings first.0) (low_more 3 (fold_sum (expression_parts tags) first.0) (fold_sum expression_nestings first.0) first.1))

  of_comparison_layer : (x : Comparison-F Primary Unary Arguments Comparison Conjunction Equality Exclusive Expr Product Sum) (y : Comparison-F PPrimary PUnary PArguments PComparison PConjunction PEquality PExclusive PExpr PProduct PSum) → map-Comparison PPrimary PUnary PArguments PComparison PConjunction PEquality PExclusive PExpr PProduct PSum Primary Unary Arguments Comparison Conjunction Equality Exclusive Expr Product Sum (λ q. q.0) (λ q. q.0) (λ q. q.0) (λ q. q.0) (λ q. q.0) (λ q. q.0) (λ q. q.0) (λ q. q.0) (λ q. q.0) (λ q. q.0) y ≡ x → OfComparison (roll-Comparison x)
  of_comparison_layer x y is = subst (λ z. OfComparison (roll-Comparison z)) is (of_comparison y.first y.more)

  of_equality : (first : PComparison) (more : List (Operation EqualOperator PComparison)) → OfEquality (roll-Equality (record { first = first.0; more = map (with_operand (λ (q : PComparison). q.0)) more }))
  of_equality first more =
      let others : List (Operation EqualOperator Comparison) = map (with_operand (λ (q : PComparison). q.0)) more in
      low_to 5 _ _ _ _ (at-equality (expression_parts tags) first.0 others) (at-equality expression_nestings first.0 others)
      (row_low more_equal (fold_comparison (expression_parts tags)) (fold_comparison expression_nestings) 4 (λ a x k. record { left = settled (common a.own x.operand.own); right = settled (common a.own x.operand.own); operator = equal_operator x.operator; is = refl }) more
      (fold_comparison (expression_parts tags) first.0) (fold_comparison expression_nestings first.0) (low_more 4 (fold_comparison (expression_parts tags) first.0) (fold_comparison expression_nestings first.0) first.1))

  of_equality_layer : (x : Equality-F Primary Unary Arguments Comparison Conjunction Equality Exclusive Expr Product Sum) (y : Equality-F PPrimary PUnary PArguments PComparison PConjunction PEquality PExclusive PExpr PProduct PSum) → map-Equality PPrimary PUnary PArguments PComparison PConjunction PEquality PExclusive PExpr PProduct PSum Primary Unary Arguments Comparison Conjunction Equality Exclusive Expr Product Sum (λ q. q.0) (λ q. q.0) (λ q. q.0) (λ q. q.0) (λ q. q.0) (λ q. q.0) (λ q. q.0) (λ q. q.0) (λ q. q.0) (λ q. q.0) y ≡ x → OfEquality (roll-Equality x)
  of_equality_layer x y is = subst (λ z. OfEquality (roll-Equality z)) is (of_equality y.first y.more)

  of_conjunction : (first : PEquality) (more : List PEquality) → OfConjunction (roll-Conjunction (record { first = first.0; more = map (λ (q : PEquality). q.0) more }))
  of_conjunction first more =
      let others : List Equality = map (λ (q : PEquality). q.0) more in
      low_to 6 _ _ _ _ (at-conjunction (expression_parts tags) first.0 others) (at-conjunction expression_nestings first.0 others)
      (plain_low (logic c.And) (fold_equality (expression_parts tags)) (fold_equality expression_nestings) 5 (λ a x k. record { left = kind.Bool; right = kind.Bool; operator = c.And; is = refl }) more
      (fold_equality (expression_parts tags) first.0) (fold_equality expression_nestings first.0) (low_more 5 (fold_equality (expression_parts tags) first.0) (fold_equality expression_nestings first.0) first.1))

  of_conjunction_layer : (x : Conjunction-F Primary Unary Arguments Comparison Conjunction Equality Exclusive Expr Product Sum) (y : Conjunction-F PPrimary PUnary PArguments PComparison PConjunction PEquality PExclusive PExpr PProduct PSum) → map-Conjunction PPrimary PUnary PArguments PComparison PConjunction PEquality PExclusive PExpr PProduct PSum Primary Unary Arguments Comparison Conjunction Equality Exclusive Expr Product Sum (λ q. q.0) (λ q. q.0) (λ q. q.0) (λ q. q.0) (λ q. q.0) (λ q. q.0) (λ q. q.0) (λ q. q.0) (λ q. q.0) (λ q. q.0) y ≡ x → OfConjunction (roll-Conjunction x)
  of_conjunction_layer x y is = subst (λ z. OfConjunction (roll-Conjunction z)) is (of_conjunction y.first y.more)

  of_exclusive : (first : PConjunction) (more : List PConjunction) → OfExclusive (roll-Exclusive (record { first = first.0; more = map (λ (q : PConjunction). q.0) more }))
  of_exclusive first more =
      let others : List Conjunction = map (λ (q : PConjunction). q.0) more in
      low_to 7 _ _ _ _ (at-exclusive (expression_parts tags) first.0 others) (at-exclusive expression_nestings first.0 others)
      (plain_low (logic c.Xor) (fold_conjunction (expression_parts tags)) (fold_conjunction expression_nestings) 6 (λ a x k. record { left = kind.Bool; right = kind.Bool; operator = c.Xor; is = refl }) more
      (fold_conjunction (expression_parts tags) first.0) (fold_conjunction expression_nestings first.0) (low_more 6 (fold_conjunction (expression_parts tags) first.0) (fold_conjunction expression_nestings first.0) first.1))

  of_exclusive_layer : (x : Exclusive-F Primary Unary Arguments Comparison Conjunction Equality Exclusive Expr Product Sum) (y : Exclusive-F PPrimary PUnary PArguments PComparison PConjunction PEquality PExclusive PExpr PProduct PSum) → map-Exclusive PPrimary PUnary PArguments PComparison PConjunction PEquality PExclusive PExpr PProduct PSum Primary Unary Arguments Comparison Conjunction Equality Exclusive Expr Product Sum (λ q. q.0) (λ q. q.0) (λ q. q.0) (λ q. q.0) (λ q. q.0) (λ q. q.0) (λ q. q.0) (λ q. q.0) (λ q. q.0) (λ q. q.0) y ≡ x → OfExclusive (roll-Exclusive x)
  of_exclusive_layer x y is = subst (λ z. OfExclusive (roll-Exclusive z)) is (of_exclusive y.first y.more)

  of_expr : (first : PExclusive) (more : List PExclusive) → OfExpr (roll-Expr (record { first = first.0; more = map (λ (q : PExclusive). q.0) more }))
  of_expr first more =
      let others : List Exclusive = map (λ (q : PExclusive). q.0) more in
      low_to 8 _ _ _ _ (at-expr (expression_parts tags) first.0 others) (at-expr expression_nestings first.0 others)
      (plain_low (logic c.Or) (fold_exclusive (expression_parts tags)) (fold_exclusive expression_nestings) 7 (λ a x k. record { left = kind.Bool; right = kind.Bool; operator = c.Or; is = refl }) more
      (fold_exclusive (expression_parts tags) first.0) (fold_exclusive expression_nestings first.0) (low_more 7 (fold_exclusive (expression_parts tags) first.0) (fold_exclusive expression_nestings first.0) first.1))

  of_expr_layer : (x : Expr-F Primary Unary Arguments Comparison Conjunction Equality Exclusive Expr Product Sum) (y : Expr-F PPrimary PUnary PArguments PComparison PConjunction PEquality PExclusive PExpr PProduct PSum) → map-Expr PPrimary PUnary PArguments PComparison PConjunction PEquality PExclusive PExpr PProduct PSum Primary Unary Arguments Comparison Conjunction Equality Exclusive Expr Product Sum (λ q. q.0) (λ q. q.0) (λ q. q.0) (λ q. q.0) (λ q. q.0) (λ q. q.0) (λ q. q.0) (λ q. q.0) (λ q. q.0) (λ q. q.0) y ≡ x → OfExpr (roll-Expr x)
  of_expr_layer x y is = subst (λ z. OfExpr (roll-Expr z)) is (of_expr y.first y.more)

  -- each of several, where the deepest is at most so deep
  several_low : (more : List PExpr) (d m : ℕ) → fold max d (map (fold_expr expression_nestings) (map (λ (q : PExpr). q.0) more)) ≤ m → AllLow 8 (map E (map (λ (q : PExpr). q.0) more)) m × (d ≤ m)
  unfolding AllLow
  several_low [] d m h = (tt, h)
  several_low (q ∷ qs) d m h =
      let next = several_low qs (max d (fold_expr expression_nestings q.0)) m h in
      (((λ k. omega (arith, q.1 k, next.1)), next.0), omega (arith, next.1))

  of_arguments : (first : PExpr) (more : List PExpr) → OfArguments (roll-Arguments (record { first = first.0; more = map (λ (q : PExpr). q.0) more }))
  unfolding AllLow
  of_arguments first more =
      let others : List Expr = map (λ (q : PExpr). q.0) more in
      let m = fold max (fold_expr expression_nestings first.0) (map (fold_expr expression_nestings) others) in
      let several = several_low more (fold_expr expression_nestings first.0) m (omega arith) in
      subst (λ n. AllLow 8 (fold_arguments (expression_parts tags) (roll-Arguments (record { first = first.0; more = others }))) n) (sym (at-arguments expression_nestings first.0 others))
      (subst (λ (js : List Elaborated). AllLow 8 js m) (sym (at-arguments (expression_parts tags) first.0 others)) ((λ k. omega (arith, first.1 k, several.1)), several.0))

  of_arguments_layer : (x : Arguments-F Primary Unary Arguments Comparison Conjunction Equality Exclusive Expr Product Sum) (y : Arguments-F PPrimary PUnary PArguments PComparison PConjunction PEquality PExclusive PExpr PProduct PSum) → map-Arguments PPrimary PUnary PArguments PComparison PConjunction PEquality PExclusive PExpr PProduct PSum Primary Unary Arguments Comparison Conjunction Equality Exclusive Expr Product Sum (λ q. q.0) (λ q. q.0) (λ q. q.0) (λ q. q.0) (λ q. q.0) (λ q. q.0) (λ q. q.0) (λ q. q.0) (λ q. q.0) (λ q. q.0) y ≡ x → OfArguments (roll-Arguments x)
  of_arguments_layer x y is = subst (λ z. OfArguments (roll-Arguments z)) is (of_arguments y.first y.more)

  of_unary_layer : (x : Unary-F Primary Unary Arguments Comparison Conjunction Equality Exclusive Expr Product Sum) (y : Unary-F PPrimary PUnary PArguments PComparison PConjunction PEquality PExclusive PExpr PProduct PSum) → map-Unary PPrimary PUnary PArguments PComparison PConjunction PEquality PExclusive PExpr PProduct PSum Primary Unary Arguments Comparison Conjunction Equality Exclusive Expr Product Sum (λ q. q.0) (λ q. q.0) (λ q. q.0) (λ q. q.0) (λ q. q.0) (λ q. q.0) (λ q. q.0) (λ q. q.0) (λ q. q.0) (λ q. q.0) y ≡ x → OfUnary (roll-Unary x)
  of_unary_layer x (Unary-F.Plain q) is = subst (λ z. OfUnary (roll-Unary z)) is
      (low_to 1 _ _ _ _ (ap (fold_unary (expression_parts tags)) (rolls-Plain q.0) ∙ at-plain (expression_parts tags) q.0) (ap (fold_unary expression_nestings) (rolls-Plain q.0) ∙ at-plain expression_nestings q.0)
      (q.1))
  of_unary_layer x (Unary-F.Minus place q) is = subst (λ z. OfUnary (roll-Unary z)) is
      (low_to 1 _ _ _ _ (ap (fold_unary (expression_parts tags)) (rolls-Minus place q.0) ∙ at-minus (expression_parts tags) place q.0) (ap (fold_unary expression_nestings) (rolls-Minus place q.0) ∙ at-minus expression_nestings place q.0)
      (λ k. omega (arith, unary_height (c.Negate k) ((fold_primary (expression_parts tags) q.0).asked k), q.1 k)))
  of_unary_layer x (Unary-F.Not place q) is = subst (λ z. OfUnary (roll-Unary z)) is
      (low_to 1 _ _ _ _ (ap (fold_unary (expression_parts tags)) (rolls-Not place q.0) ∙ at-not (expression_parts tags) place q.0) (ap (fold_unary expression_nestings) (rolls-Not place q.0) ∙ at-not expression_nestings place q.0)
      (λ k. omega (arith, unary_height c.Not ((fold_primary (expression_parts tags) q.0).asked kind.Bool), q.1 kind.Bool)))

  of_primary_layer : (x : Primary-F Primary Unary Arguments Comparison Conjunction Equality Exclusive Expr Product Sum) (y : Primary-F PPrimary PUnary PArguments PComparison PConjunction PEquality PExclusive PExpr PProduct PSum) → map-Primary PPrimary PUnary PArguments PComparison PConjunction PEquality PExclusive PExpr PProduct PSum Primary Unary Arguments Comparison Conjunction Equality Exclusive Expr Product Sum (λ q. q.0) (λ q. q.0) (λ q. q.0) (λ q. q.0) (λ q. q.0) (λ q. q.0) (λ q. q.0) (λ q. q.0) (λ q. q.0) (λ q. q.0) y ≡ x → OfPrimary (roll-Primary x)
  of_primary_layer x (Primary-F.Number n place) is = subst (λ z. OfPrimary (roll-Primary z)) is
      (low_to 1 _ _ _ _ (ap (fold_primary (expression_parts tags)) (rolls-Number n place) ∙ at-number (expression_parts tags) n place) (ap (fold_primary expression_nestings) (rolls-Number n place) ∙ at-number expression_nestings n place)
      (λ k. omega (arith, literal_height (pos n))))
  of_primary_layer x (Primary-F.Truth b place) is = subst (λ z. OfPrimary (roll-Primary z)) is
      (low_to 1 _ _ _ _ (ap (fold_primary (expression_parts tags)) (rolls-Truth b place) ∙ at-truth (expression_parts tags) b place) (ap (fold_primary expression_nestings) (rolls-Truth b place) ∙ at-truth expression_nestings b place)
      (λ k. omega (arith, literal_height (number b))))
  of_primary_layer x (Primary-F.Tag n) is = subst (λ z. OfPrimary (roll-Primary z)) is
      (low_to 1 _ _ _ _ (ap (fold_primary (expression_parts tags)) (rolls-Tag n) ∙ at-tag (expression_parts tags) n) (ap (fold_primary expression_nestings) (rolls-Tag n) ∙ at-tag expression_nestings n)
      (λ k. omega (arith, field_height n.name 0 (word_type (type_of tags n.name)))))
  of_primary_layer x (Primary-F.Field n f) is = subst (λ z. OfPrimary (roll-Primary z)) is
      (low_to 1 _ _ _ _ (ap (fold_primary (expression_parts tags)) (rolls-Field n f) ∙ at-field (expression_parts tags) n f) (ap (fold_primary expression_nestings) (rolls-Field n f) ∙ at-field expression_nestings n f)
      (λ k. let b = block_of (type_of tags n.name) in omega (arith, field_height n.name (field_place b f.name) (field_type b f.name))))
  of_primary_layer x (Primary-F.Element n e) is = subst (λ z. OfPrimary (roll-Primary z)) is
      (low_to 1 _ _ _ _ (ap (fold_primary (expression_parts tags)) (rolls-Element n e.0) ∙ at-element (expression_parts tags) n e.0) (ap (fold_primary expression_nestings) (rolls-Element n e.0) ∙ at-element expression_nestings n e.0)
      (λ k. let type = type_of tags n.name in let i = settled (E e.0).own in omega (arith, element_height n.name (element_type type) (low_bound type) (high_bound type) ((E e.0).asked i), e.1 i)))
  of_primary_layer x (Primary-F.Bracketed place e) is = subst (λ z. OfPrimary (roll-Primary z)) is
      (low_to 1 _ _ _ _ (ap (fold_primary (expression_parts tags)) (rolls-Bracketed place e.0) ∙ at-bracketed (expression_parts tags) place e.0) (ap (fold_primary expression_nestings) (rolls-Bracketed place e.0) ∙ at-bracketed expression_nestings place e.0)
      (λ k. omega (arith, e.1 k)))
  of_primary_layer x (Primary-F.Call f place a) is = subst (λ z. OfPrimary (roll-Primary z)) is
      (low_to 1 _ _ _ _ (ap (fold_primary (expression_parts tags)) (rolls-Call f place a.0) ∙ at-call (expression_parts tags) f place a.0) (ap (fold_primary expression_nestings) (rolls-Call f place a.0) ∙ at-call expression_nestings f place a.0)
      (call_low f (fold_arguments (expression_parts tags) a.0) (fold_arguments expression_nestings a.0) a.1))

  -- an expression has at most ten operands waiting for each level of its nesting, and eight more
  pub low_expr : (e : Expr) → Low 8 (elaborated tags e) (expr_nesting e)
  unfolding elaborated expr_nesting
  low_expr = ind-Expr OfPrimary OfUnary OfArguments OfComparison OfConjunction OfEquality OfExclusive OfExpr OfProduct OfSum of_primary_layer of_unary_layer of_arguments_layer of_comparison_layer of_conjunction_layer of_equality_layer of_exclusive_layer of_expr_layer of_product_layer of_sum_layer
