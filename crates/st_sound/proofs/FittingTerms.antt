-- The term of an expression without a fault fits.
use Rattle.std.proofs.Common.{◌≡◌, ℕ, ℤ, pos, Bool, true, false, List, [], ◌∷◌, map, fold, Option, None, Some, arith, refl, ap, sym, ◌∙◌, subst}
use Rattle.std.proofs.lemmas.Int.{ints}
use Rattle.function_blocks.specs.declared.kinds.Kind.{Kind}
use Rattle.function_blocks.specs.declared.kinds.Kind.TheVariants as kind
use Rattle.function_blocks.specs.Values.{number, IsOperand}
use Rattle.function_blocks.specs.Fields.{output_named}
use Rattle.st_tree.specs.declared.expression.Operation.{Operation}
use Rattle.st_tree.specs.declared.expression.EqualOperator.{EqualOperator}
use Rattle.st_tree.specs.declared.expression.CompareOperator.{CompareOperator}
use Rattle.st_tree.specs.declared.expression.AddOperator.{AddOperator}
use Rattle.st_tree.specs.declared.expression.MultiplyOperator.{MultiplyOperator}
use Rattle.st_tree.specs.declared.expression.Function.{Function}
use Rattle.st_tree.specs.declared.expression.Function.TheVariants as function
use Rattle.st_tree.specs.declared.expression.Primary.{Primary, roll-Primary, map-Primary}
use Rattle.st_tree.specs.declared.expression.Unary.{Unary, roll-Unary, map-Unary}
use Rattle.st_tree.specs.declared.expression.Arguments.{Arguments, roll-Arguments, map-Arguments}
use Rattle.st_tree.specs.declared.expression.Comparison.{Comparison, roll-Comparison, map-Comparison}
use Rattle.st_tree.specs.declared.expression.Conjunction.{Conjunction, roll-Conjunction, map-Conjunction}
use Rattle.st_tree.specs.declared.expression.Equality.{Equality, roll-Equality, map-Equality}
use Rattle.st_tree.specs.declared.expression.Exclusive.{Exclusive, roll-Exclusive, map-Exclusive}
use Rattle.st_tree.specs.declared.expression.Expr.{Expr, roll-Expr, map-Expr, ind-Expr}
use Rattle.st_tree.specs.declared.expression.Product.{Product, roll-Product, map-Product}
use Rattle.st_tree.specs.declared.expression.Sum.{Sum, roll-Sum, map-Sum}
use Rattle.st_tree.specs.declared.expression.Primary.TheVariants.{rolls-Number, rolls-Truth, rolls-Tag, rolls-Field, rolls-Element, rolls-Bracketed, rolls-Call}
use Rattle.st_tree.specs.declared.expression.Unary.TheVariants.{rolls-Plain, rolls-Minus, rolls-Not}
use Rattle.st_tree.specs.declared.expression.Primary.TheOpen.{Primary-F, Unary-F, Arguments-F, Comparison-F, Conjunction-F, Equality-F, Exclusive-F, Expr-F, Product-F, Sum-F}
use Rattle.st_tree.specs.declared.declaration.PlacedName.{PlacedName}
use Rattle.st_tree.specs.declared.declaration.Integer.{Integer}
use Rattle.st_tree.specs.declared.declaration.DeclaredType.{DeclaredType}
use Rattle.st_tree.specs.declared.declaration.DeclaredType.TheVariants as declared
use Rattle.st_tree.specs.declared.tag.Tag.{Tag}
use Rattle.st_tree.specs.Listed.{operands}
use Rattle.st_tree.specs.Tags.{tag_named}
use Rattle.st_tree.specs.ExpressionFolds.{fold_primary, fold_unary, fold_arguments, fold_comparison, fold_conjunction, fold_equality, fold_exclusive, fold_expr, fold_product, fold_sum}
use Rattle.st_tree.specs.Typing.Literals.{range_faults}
use Rattle.st_tree.specs.Typing.Operands.{Outcome, Typing, Typed, found, faults_of, asked_of, as_integer, integers, alike, chain, both_bool, both_integer, compared_alike, compared_integers}
use Rattle.st_tree.specs.Typing.Names.{value_of_tag, tag_value, output_value, value_of_field, field_value, value_of_element, element_value}
use Rattle.st_tree.specs.Typing.Functions.{called}
use Rattle.st_tree.specs.Typing.Expressions.{PrimaryTyping, NumberToken, Other, plain_literal, negated_literal, unsigned, negated, expression_types, typing_of}
use Rattle.st_tree.proofs.ExpressionEquations.{with_operand, at-number, at-truth, at-tag, at-field, at-element, at-bracketed, at-call, at-plain, at-minus, at-not, at-arguments, at-comparison, at-conjunction, at-equality, at-exclusive, at-expr, at-product, at-sum}
use Rattle.st_core.specs.Core.{UnaryOperator, BinaryOperator, Term}
use Rattle.st_core.specs.Core as c
use Rattle.st_core.specs.Memory.{Shape}
use Rattle.st_core.specs.Fits.{HasArray, OperatorFits, TermFits}
use Rattle.st_meaning.specs.Types.{type_of, low_bound, high_bound}
use Rattle.st_meaning.specs.Functions.{Operator, OneOperand, TwoOperands, ThreeOperands, operator_of, combined, first_asked}
use Rattle.st_meaning.specs.Expressions.{Elaborated, settled, common, tag, block_field, array_element, argument_asked, function_call, logic, equal_operator, compare_operator, add_operator, multiply_operator, more_equal, more_compare, more_add, more_multiply, expression_parts, elaborated}
use Rattle.st_sound.specs.Shapes.{shape_in}
use Rattle.st_sound.proofs.Ranges.{none_both, in_range, operand_of, negated_operand}
use Rattle.st_sound.proofs.Judged.{Once, once_then, once_behind, truth_then, integer_then, compared_then, Fit, Judged, AllJudged, AllFit, integers_then, booleans_then, alike_then, called_then}
use Rattle.st_sound.proofs.TagWords.{AreBounded, IsDeclared, declared_as, word_there, array_there, field_there}

-- ---- each sort of term

literal_fits : (shape : Shape) (v : ℤ) → IsOperand v → TermFits shape (c.Literal v)
unfolding TermFits
literal_fits shape v h = h

unary_fits : (shape : Shape) (o : UnaryOperator) (t : Term) → OperatorFits o → TermFits shape t → TermFits shape (c.Unary o t)
unfolding TermFits
unary_fits shape o t h g = (h, g)

binary_fits : (shape : Shape) (o : BinaryOperator) (t u : Term) → TermFits shape t → TermFits shape u → TermFits shape (c.Binary o t u)
unfolding TermFits
binary_fits shape o t u h g = (h, g)

zero_fits : (shape : Shape) → TermFits shape (c.Literal (pos 0))
zero_fits shape = literal_fits shape (pos 0) (omega (arith, ints), omega (arith, ints))

number_fits : (b : Bool) → IsOperand (number b)
number_fits true = (omega (arith, ints), omega (arith, ints))
number_fits false = (omega (arith, ints), omega (arith, ints))

-- ---- functions

-- the terms fit
unfoldable TermsFit : Shape → List Term → Type 0
TermsFit shape [] = Unit {0}
TermsFit shape (t ∷ ts) = TermFits shape t × TermsFit shape ts

arguments_fit : (shape : Shape) (k : Kind) (es : List Elaborated) → AllFit shape es → TermsFit shape (map (argument_asked k) es)
unfolding AllFit TermsFit
arguments_fit shape k [] h = tt
arguments_fit shape k (e ∷ es) h = (h.0 k, arguments_fit shape k es h.1)

-- an operator that tests no label
abbrev IsPlain : Operator → Type 0
IsPlain (OneOperand o) = OperatorFits o
IsPlain (TwoOperands o) = Unit {0}
IsPlain (ThreeOperands o) = Unit {0}

function_plain : (f : Function) (k : Kind) → IsPlain (operator_of f k)
function_plain function.Abs k = tt
function_plain function.Min k = tt
function_plain function.Max k = tt
function_plain function.Limit k = tt
function_plain function.Sel k = tt
function_plain function.IntToDint k = tt
function_plain function.DintToInt k = tt

combined_fits : (shape : Shape) (o : Operator) (t : Term) (us : List Term) → IsPlain o → TermFits shape t → TermsFit shape us → TermFits shape (combined o t us)
unfolding combined TermFits TermsFit
combined_fits shape (OneOperand o) t [] plain h g = (plain, h)
combined_fits shape (OneOperand o) t (u ∷ us) plain h g = zero_fits shape
combined_fits shape (TwoOperands o) t [] plain h g = zero_fits shape
combined_fits shape (TwoOperands o) t (u ∷ []) plain h g = (h, g.0)
combined_fits shape (TwoOperands o) t (u ∷ w ∷ us) plain h g = zero_fits shape
combined_fits shape (ThreeOperands o) t [] plain h g = zero_fits shape
combined_fits shape (ThreeOperands o) t (u ∷ []) plain h g = zero_fits shape
combined_fits shape (ThreeOperands o) t (u ∷ w ∷ []) plain h g = (h, g.0, g.1.0)
combined_fits shape (ThreeOperands o) t (u ∷ w ∷ x ∷ us) plain h g = zero_fits shape

call_fits : (shape : Shape) (f : Function) (es : List Elaborated) → AllFit shape es → Fit shape (function_call f es)
unfolding AllFit
call_fits shape f [] h k = zero_fits shape
call_fits shape f (e ∷ es) h k =
    combined_fits shape (operator_of f k) (e.asked (first_asked f k)) (map (argument_asked k) es) (function_plain f k) (h.0 (first_asked f k)) (arguments_fit shape k es h.1)

-- ---- primaries

-- of a number what it is, since a sign before it makes another literal
abbrev JudgedPrimary : Shape → PrimaryTyping → Elaborated → Type 0
JudgedPrimary shape (NumberToken n place) e = (k : Kind) → e.asked k ≡ c.Literal (pos n)
JudgedPrimary shape (Other t) e = Judged shape t e

unsigned_judged : (shape : Shape) (p : PrimaryTyping) (e : Elaborated) → JudgedPrimary shape p e → Judged shape (unsigned p) e
unsigned_judged shape (NumberToken n place) e h = λ k within j.
    let parts = none_both (range_faults k (plain_literal n place)) [] within in
    subst (TermFits shape) (sym (h j)) (literal_fits shape (pos n) (operand_of k (pos n) (in_range k (plain_literal n place) parts.0)))
unsigned_judged shape (Other t) e h = h

negated_fits : (shape : Shape) (k : Kind) (e : Elaborated) → Fit shape e → TermFits shape (c.Unary (c.Negate k) (e.asked k))
negated_fits shape k e h = unary_fits shape (c.Negate k) (e.asked k) tt (h k)

negated_judged : (shape : Shape) (at : ℕ) (p : PrimaryTyping) (e : Elaborated) → JudgedPrimary shape p e → Once (negated at p).outcome (Fit shape e)
unfolding AllJudged AllFit
negated_judged shape at (NumberToken n place) e h = λ k within j.
    let parts = none_both (range_faults k (negated_literal at n place)) [] within in
    subst (TermFits shape) (sym (h j)) (literal_fits shape (pos n) (negated_operand k n (in_range k (negated_literal at n place) parts.0)))
negated_judged shape at (Other t) e h = once_then (λ q. q.0) (integers (t ∷ [])) (integers_then shape (t ∷ []) (e ∷ []) (h, tt))

-- ---- names

module _ (tags : List Tag) (all : AreBounded tags) where
  value_judged : (n : PlacedName) (d : DeclaredType) → IsDeclared tags n.name d → Once (value_of_tag n d) (Fit (shape_in tags) (tag n.name (type_of tags n.name)))
  unfolding TermFits
  value_judged n (declared.Simple k) d = λ j. word_there tags n.name k d
  value_judged n (declared.Array low high k) d = tt
  value_judged n (declared.Block b) d = tt

  tag_judged : (n : PlacedName) (o : Option Tag) → tag_named tags n.name ≡ o → Once (tag_value n o) (Fit (shape_in tags) (tag n.name (type_of tags n.name)))
  tag_judged n None h = tt
  tag_judged n (Some t) h = value_judged n t.declared (declared_as tags all n.name t h)

  output_judged : (P : Type 0) (f : PlacedName) (o : Option Kind) → P → Once (output_value f o) P
  output_judged P f None h = tt
  output_judged P f (Some k) h = h

  part_judged : (n f : PlacedName) (d : DeclaredType) → IsDeclared tags n.name d → Once (value_of_field n f d) (Fit (shape_in tags) (block_field n.name (type_of tags n.name) f.name))
  unfolding TermFits
  part_judged n f (declared.Simple k) d = tt
  part_judged n f (declared.Array low high k) d = tt
  part_judged n f (declared.Block b) d =
      output_judged (Fit (shape_in tags) (block_field n.name (type_of tags n.name) f.name)) f (output_named b f.name) (λ j. field_there tags n.name b f.name d)

  field_judged : (n f : PlacedName) (o : Option Tag) → tag_named tags n.name ≡ o → Once (field_value n f o) (Fit (shape_in tags) (block_field n.name (type_of tags n.name) f.name))
  field_judged n f None h = tt
  field_judged n f (Some t) h = part_judged n f t.declared (declared_as tags all n.name t h)

  -- an array with the bounds that its declaration has
  pub array_bounds : (n : List ℕ) (low high : Integer) (k : Kind) → IsDeclared tags n (declared.Array low high k)
      → HasArray (shape_in tags) n (low_bound (type_of tags n)) (high_bound (type_of tags n))
  array_bounds n low high k d = subst (λ o. HasArray (shape_in tags) n (low_bound o) (high_bound o)) (sym d.is) (array_there tags n low high k d)

  index_judged : (n : PlacedName) (t : Typing) (e : Elaborated) (d : DeclaredType) → Judged (shape_in tags) t e → IsDeclared tags n.name d
      → Once (value_of_element n t d) (Fit (shape_in tags) (array_element n.name (type_of tags n.name) e))
  unfolding TermFits
  index_judged n t e (declared.Simple k) h d = tt
  index_judged n t e (declared.Array low high k) h d =
      once_behind (Fit (shape_in tags) (array_element n.name (type_of tags n.name) e)) (faults_of (as_integer t)) (Typed k)
      (λ none j. (array_bounds n.name low high k d, integer_then (Fit (shape_in tags) e) t.first t.outcome h none (settled e.own)))
  index_judged n t e (declared.Block b) h d = tt

  element_judged : (n : PlacedName) (t : Typing) (e : Elaborated) (o : Option Tag) → Judged (shape_in tags) t e → tag_named tags n.name ≡ o
      → Once (element_value n t o) (Fit (shape_in tags) (array_element n.name (type_of tags n.name) e))
  element_judged n t e None h is = tt
  element_judged n t e (Some u) h is = index_judged n t e u.declared h (declared_as tags all n.name u is)

-- ---- operands in a row

-- what two operands are: a term of an operator
record Pairs (a b both : Elaborated) (k : Kind) : Type 0 where
  left : Kind
  right : Kind
  operator : BinaryOperator
  is : both.asked k ≡ c.Binary operator (a.asked left) (b.asked right)

-- the term of two operands without a fault fits
Keeps : Shape → (Typing → Typing → Outcome) → Type 0
Keeps shape rule = (t u : Typing) (a b : Elaborated) → Judged shape t a → Judged shape u b → Once (rule t u) (AllFit shape (a ∷ b ∷ []))

module _ (shape : Shape) where
  two_judged : (t u : Typing) (a b : Elaborated) → Judged shape t a → Judged shape u b → AllJudged shape (t ∷ u ∷ []) (a ∷ b ∷ [])
  unfolding AllJudged
  two_judged t u a b h g = (h, (g, tt))

  both_integer_keep : Keeps shape both_integer
  unfolding Keeps
  both_integer_keep t u a b h g = integers_then shape (t ∷ u ∷ []) (a ∷ b ∷ []) (two_judged t u a b h g)

  both_bool_keep : Keeps shape both_bool
  unfolding Keeps
  both_bool_keep t u a b h g = booleans_then shape (t ∷ u ∷ []) (a ∷ b ∷ []) (two_judged t u a b h g)

  compared_integers_keep : Keeps shape compared_integers
  unfolding Keeps
  compared_integers_keep t u a b h g = compared_then (AllFit shape (a ∷ b ∷ [])) (both_integer t u) (both_integer_keep t u a b h g)

  compared_alike_keep : Keeps shape compared_alike
  unfolding Keeps
  compared_alike_keep t u a b h g = compared_then (AllFit shape (a ∷ b ∷ [])) (alike t u) (alike_then shape t.outcome (t ∷ u ∷ []) (a ∷ b ∷ []) (two_judged t u a b h g))

  pair_fits : (a b both : Elaborated) → ((k : Kind) → Pairs a b both k) → AllFit shape (a ∷ b ∷ []) → Fit shape both
  unfolding AllFit
  pair_fits a b both pairs h = λ k.
      let p = pairs k in
      subst (TermFits shape) (sym p.is) (binary_fits shape p.operator (a.asked p.left) (b.asked p.right) (h.0 p.left) (h.1.0 p.right))

  pair_judged : (rule : Typing → Typing → Outcome) → Keeps shape rule → (t u : Typing) (a b both : Elaborated) → ((k : Kind) → Pairs a b both k) → Judged shape t a → Judged shape u b
      → Judged shape (found t.first (rule t u)) both
  unfolding Keeps
  pair_judged rule keeps t u a b both pairs h g = once_then (pair_fits a b both pairs) (rule t u) (keeps t u a b h g)

  -- each behind an operator
  row_judged : {O T : Type 0} (rule : Typing → Typing → Outcome) (step : Elaborated → Operation O Elaborated → Elaborated) (t : T → Typing) (e : T → Elaborated) → Keeps shape rule
      → ((a : Elaborated) (x : Operation O Elaborated) (k : Kind) → Pairs a x.operand (step a x) k)
      → (more : List (Operation O ((x : T) × Judged shape (t x) (e x)))) (left : Typing) (a : Elaborated) → Judged shape left a
      → Judged shape (chain rule left (operands (map (with_operand t) (map (with_operand (λ (q : (x : T) × Judged shape (t x) (e x)). q.0)) more))))
      (fold step a (map (with_operand e) (map (with_operand (λ (q : (x : T) × Judged shape (t x) (e x)). q.0)) more)))
  row_judged {O = O} rule step t e keeps pairs [] left a h = h
  row_judged {O = O} rule step t e keeps pairs (x ∷ xs) left a h =
      let here : Operation O Elaborated = record { operator = x.operator; operand = e x.operand.0 } in
      row_judged rule step t e keeps pairs xs (found left.first (rule left (t x.operand.0))) (step a here)
      (pair_judged rule keeps left (t x.operand.0) a (e x.operand.0) (step a here) (pairs a here) h x.operand.1)

  -- of one operator
  plain_judged : {T : Type 0} (step : Elaborated → Elaborated → Elaborated) (t : T → Typing) (e : T → Elaborated)
      → ((a x : Elaborated) (k : Kind) → Pairs a x (step a x) k)
      → (more : List ((x : T) × Judged shape (t x) (e x))) (left : Typing) (a : Elaborated) → Judged shape left a
      → Judged shape (chain both_bool left (map t (map (λ (q : (x : T) × Judged shape (t x) (e x)). q.0) more)))
      (fold step a (map e (map (λ (q : (x : T) × Judged shape (t x) (e x)). q.0) more)))
  plain_judged step t e pairs [] left a h = h
  plain_judged step t e pairs (x ∷ xs) left a h =
      plain_judged step t e pairs xs (found left.first (both_bool left (t x.0))) (step a (e x.0))
      (pair_judged both_bool both_bool_keep left (t x.0) a (e x.0) (step a (e x.0)) (pairs a (e x.0)) h x.1)

judged_to : (shape : Shape) (t u : Typing) (i j : Elaborated) → t ≡ u → i ≡ j → Judged shape u j → Judged shape t i
judged_to shape t u i j p q h = subst (λ (x : Elaborated). Judged shape t x) (sym q) (subst (λ (x : Typing). Judged shape x j) (sym p) h)

primary_to : (shape : Shape) (t u : PrimaryTyping) (i j : Elaborated) → t ≡ u → i ≡ j → JudgedPrimary shape u j → JudgedPrimary shape t i
primary_to shape t u i j p q h = subst (λ (x : Elaborated). JudgedPrimary shape t x) (sym q) (subst (λ (x : PrimaryTyping). JudgedPrimary shape x j) (sym p) h)

-- ---- all parts of the grammar

module _ (tags : List Tag) (all : AreBounded tags) where
  abbrev S : Shape
  S = shape_in tags

  abbrev OfPrimary : Primary → Type 0
  OfPrimary x = JudgedPrimary S (fold_primary (expression_types tags) x) (fold_primary (expression_parts tags) x)

  abbrev PPrimary : Type 0
  PPrimary = (x : Primary) × OfPrimary x

  abbrev OfUnary : Unary → Type 0
  OfUnary x = Judged S (fold_unary (expression_types tags) x) (fold_unary (expression_parts tags) x)

  abbrev PUnary : Type 0
  PUnary = (x : Unary) × OfUnary x

  abbrev OfArguments : Arguments → Type 0
  OfArguments x = AllJudged S (fold_arguments (expression_types tags) x) (fold_arguments (expression_parts tags) x)

  abbrev PArguments : Type 0
  PArguments = (x : Arguments) × OfArguments x

  abbrev OfComparison : Comparison → Type 0
  OfComparison x = Judged S (fold_comparison (expression_types tags) x) (fold_comparison (expression_parts tags) x)

  abbrev PComparison : Type 0
  PComparison = (x : Comparison) × OfComparison x

  abbrev OfConjunction : Conjunction → Type 0
  OfConjunction x = Judged S (fold_conjunction (expression_types tags) x) (fold_conjunction (expression_parts tags) x)

  abbrev PConjunction : Type 0
  PConjunction = (x : Conjunction) × OfConjunction x

  abbrev OfEquality : Equality → Type 0
  OfEquality x = Judged S (fold_equality (expression_types tags) x) (fold_equality (expression_parts tags) x)

  abbrev PEquality : Type 0
  PEquality = (x : Equality) × OfEquality x

  abbrev OfExclusive : Exclusive → Type 0
  OfExclusive x = Judged S (fold_exclusive (expression_types tags) x) (fold_exclusive (expression_parts tags) x)

  abbrev PExclusive : Type 0
  PExclusive = (x : Exclusive) × OfExclusive x

  abbrev OfExpr : Expr → Type 0
  OfExpr x = Judged S (fold_expr (expression_types tags) x) (fold_expr (expression_parts tags) x)

  abbrev PExpr : Type 0
  PExpr = (x : Expr) × OfExpr x

  abbrev OfProduct : Product → Type 0
  OfProduct x = Judged S (fold_product (expression_types tags) x) (fold_product (expression_parts tags) x)

  abbrev PProduct : Type 0
  PProduct = (x : Product) × OfProduct x

  abbrev OfSum : Sum → Type 0
  OfSum x = Judged S (fold_sum (expression_types tags) x) (fold_sum (expression_parts tags) x)

  abbrev PSum : Type 0
  PSum = (x : Sum) × OfSum x

  of_product : (first : PUnary) (more : List (Operation MultiplyOperator PUnary)) → OfProduct (roll-Product (record { first = first.0; more = map (with_operand (λ (q : PUnary). q.0)) more }))
  of_product first more =
      let others : List (Operation MultiplyOperator Unary) = map (with_operand (λ (q : PUnary). q.0)) more in
      judged_to S _ _ _ _ (at-product (expression_types tags) first.0 others) (at-product (expression_parts tags) first.0 others)
      (row_judged S both_integer more_multiply (fold_unary (expression_types tags)) (fold_unary (expression_parts tags)) (both_integer_keep S) (λ a x k. record { left = k; right = k; operator = multiply_operator x.operator k; is = refl }) more (fold_unary (expression_types tags) first.0) (fold_unary (expression_parts tags) first.0) first.1)

  of_product_layer : (x : Product-F Primary Unary Arguments Comparison Conjunction Equality Exclusive Expr Product Sum) (y : Product-F PPrimary PUnary PArguments PComparison PConjunction PEquality PExclusive PExpr PProduct PSum) → map-Product PPrimary PUnary PArguments PComparison PConjunction PEquality PExclusive PExpr PProduct PSum Primary Unary Arguments Comparison Conjunction Equality Exclusive Expr Product Sum (λ q. q.0) (λ q. q.0) (λ q. q.0) (λ q. q.0) (λ q. q.0) (λ q. q.0) (λ q. q.0) (λ q. q.0) (λ q. q.0) (λ q. q.0) y ≡ x → OfProduct (roll-Product x)
  of_product_layer x y is = subst (λ z. OfProduct (roll-Product z)) is (of_product y.first y.more)

  of_sum : (first : PProduct) (more : List (Operation AddOperator PProduct)) → OfSum (roll-Sum (record { first = first.0; more = map (with_operand (λ (q : PProduct). q.0)) more }))
  of_sum first more =
      let others : List (Operation AddOperator Product) = map (with_operand (λ (q : PProduct). q.0)) more in
      judged_to S _ _ _ _ (at-sum (expression_types tags) first.0 others) (at-sum (expression_parts tags) first.0 others)
      (row_judged S both_integer more_add (fold_product (expression_types tags)) (fold_product (expression_parts tags)) (both_integer_keep S) (λ a x k. record { left = k; right = k; operator = add_operator x.operator k; is = refl }) more (fold_product (expression_types tags) first.0) (fold_product (expression_parts tags) first.0) first.1)

  of_sum_layer : (x : Sum-F Primary Unary Arguments Comparison Conjunction Equality Exclusive Expr Product Sum) (y : Sum-F PPrimary PUnary PArguments PComparison PConjunction PEquality PExclusive PExpr PProduct PSum) → map-Sum PPrimary PUnary PArguments PComparison PConjunction PEquality PExclusive PExpr PProduct PSum Primary Unary Arguments Comparison Conjunction Equality Exclusive Expr Product Sum (λ q. q.0) (λ q. q.0) (λ q. q.0) (λ q. q.0) (λ q. q.0) (λ q. q.0) (λ q. q.0) (λ q. q.0) (λ q. q.0) (λ q. q.0) y ≡ x → OfSum (roll-Sum x)
  of_sum_layer x y is = subst (λ z. OfSum (roll-Sum z)) is (of_sum y.first y.more)

  of_comparison : (first : PSum) (more : List (Operation CompareOperator PSum)) → OfComparison (roll-Comparison (record { first = first.0; more = map (with_operand (λ (q : PSum). q.0)) more }))
  of_comparison first more =
      let others : List (Operation CompareOperator Sum) = map (with_operand (λ (q : PSum). q.0)) more in
      judged_to S _ _ _ _ (at-comparison (expression_types tags) first.0 others) (at-comparison (expression_parts tags) first.0 others)
      (row_judged S compared_integers more_compare (fold_sum (expression_types tags)) (fold_sum (expression_parts tags)) (compared_integers_keep S) (λ a x k. record { left = settled (common a.own x.operand.own); right = settled (common a.own x.operand.own); operator = compare_operator x.operator; is = refl }) more (fold_sum (expression_types tags) first.0) (fold_sum (expression_parts tags) first.0) first.1)

  of_comparison_layer : (x : Comparison-F Primary Unary Arguments Comparison Conjunction Equality Exclusive Expr Product Sum) (y : Comparison-F PPrimary PUnary PArguments PComparison PConjunction PEquality PExclusive PExpr PProduct PSum) → map-Comparison PPrimary PUnary PArguments PComparison PConjunction PEquality PExclusive PExpr PProduct PSum Primary Unary Arguments Comparison Conjunction Equality Exclusive Expr Product Sum (λ q. q.0) (λ q. q.0) (λ q. q.0) (λ q. q.0) (λ q. q.0) (λ q. q.0) (λ q. q.0) (λ q. q.0) (λ q. q.0) (λ q. q.0) y ≡ x → OfComparison (roll-Comparison x)
  of_comparison_layer x y is = subst (λ z. OfComparison (roll-Comparison z)) is (of_comparison y.first y.more)

  of_equality : (first : PComparison) (more : List (Operation EqualOperator PComparison)) → OfEquality (roll-Equality (record { first = first.0; more = map (with_operand (λ (q : PComparison). q.0)) more }))
  of_equality first more =
      let others : List (Operation EqualOperator Comparison) = map (with_operand (λ (q : PComparison). q.0)) more in
      judged_to S _ _ _ _ (at-equality (expression_types tags) first.0 others) (at-equality (expression_parts tags) first.0 others)
      (row_judged S compared_alike more_equal (fold_comparison (expression_types tags)) (fold_comparison (expression_parts tags)) (compared_alike_keep S) (λ a x k. record { left = settled (common a.own x.operand.own); right = settled (common a.own x.operand.own); operator = equal_operator x.operator; is = refl }) more (fold_comparison (expression_types tags) first.0) (fold_comparison (expression_parts tags) first.0) first.1)

  of_equality_layer : (x : Equality-F Primary Unary Arguments Comparison Conjunction Equality Exclusive Expr Product Sum) (y : Equality-F PPrimary PUnary PArguments PComparison PConjunction PEquality PExclusive PExpr PProduct PSum) → map-Equality PPrimary PUnary PArguments PComparison PConjunction PEquality PExclusive PExpr PProduct PSum Primary Unary Arguments Comparison Conjunction Equality Exclusive Expr Product Sum (λ q. q.0) (λ q. q.0) (λ q. q.0) (λ q. q.0) (λ q. q.0) (λ q. q.0) (λ q. q.0) (λ q. q.0) (λ q. q.0) (λ q. q.0) y ≡ x → OfEquality (roll-Equality x)
  of_equality_layer x y is = subst (λ z. OfEquality (roll-Equality z)) is (of_equality y.first y.more)

  of_conjunction : (first : PEquality) (more : List PEquality) → OfConjunction (roll-Conjunction (record { first = first.0; more = map (λ (q : PEquality). q.0) more }))
  of_conjunction first more =
      let others : List Equality = map (λ (q : PEquality). q.0) more in
      judged_to S _ _ _ _ (at-conjunction (expression_types tags) first.0 others) (at-conjunction (expression_parts tags) first.0 others)
      (plain_judged S (logic c.And) (fold_equality (expression_types tags)) (fold_equality (expression_parts tags)) (λ a x k. record { left = kind.Bool; right = kind.Bool; operator = c.And; is = refl }) more (fold_equality (expression_types tags) first.0) (fold_equality (expression_parts tags) first.0) first.1)

  of_conjunction_layer : (x : Conjunction-F Primary Unary Arguments Comparison Conjunction Equality Exclusive Expr Product Sum) (y : Conjunction-F PPrimary PUnary PArguments PComparison PConjunction PEquality PExclusive PExpr PProduct PSum) → map-Conjunction PPrimary PUnary PArguments PComparison PConjunction PEquality PExclusive PExpr PProduct PSum Primary Unary Arguments Comparison Conjunction Equality Exclusive Expr Product Sum (λ q. q.0) (λ q. q.0) (λ q. q.0) (λ q. q.0) (λ q. q.0) (λ q. q.0) (λ q. q.0) (λ q. q.0) (λ q. q.0) (λ q. q.0) y ≡ x → OfConjunction (roll-Conjunction x)
  of_conjunction_layer x y is = subst (λ z. OfConjunction (roll-Conjunction z)) is (of_conjunction y.first y.more)

  of_exclusive : (first : PConjunction) (more : List PConjunction) → OfExclusive (roll-Exclusive (record { first = first.0; more = map (λ (q : PConjunction). q.0) more }))
  of_exclusive first more =
      let others : List Conjunction = map (λ (q : PConjunction). q.0) more in
      judged_to S _ _ _ _ (at-exclusive (expression_types tags) first.0 others) (at-exclusive (expression_parts tags) first.0 others)
      (plain_judged S (logic c.Xor) (fold_conjunction (expression_types tags)) (fold_conjunction (expression_parts tags)) (λ a x k. record { left = kind.Bool; right = kind.Bool; operator = c.Xor; is = refl }) more (fold_conjunction (expression_types tags) first.0) (fold_conjunction (expression_parts tags) first.0) first.1)

  of_exclusive_layer : (x : Exclusive-F Primary Unary Arguments Comparison Conjunction Equality Exclusive Expr Product Sum) (y : Exclusive-F PPrimary PUnary PArguments PComparison PConjunction PEquality PExclusive PExpr PProduct PSum) → map-Exclusive PPrimary PUnary PArguments PComparison PConjunction PEquality PExclusive PExpr PProduct PSum Primary Unary Arguments Comparison Conjunction Equality Exclusive Expr Product Sum (λ q. q.0) (λ q. q.0) (λ q. q.0) (λ q. q.0) (λ q. q.0) (λ q. q.0) (λ q. q.0) (λ q. q.0) (λ q. q.0) (λ q. q.0) y ≡ x → OfExclusive (roll-Exclusive x)
  of_exclusive_layer x y is = subst (λ z. OfExclusive (roll-Exclusive z)) is (of_exclusive y.first y.more)

  of_expr : (first : PExclusive) (more : List PExclusive) → OfExpr (roll-Expr (record { first = first.0; more = map (λ (q : PExclusive). q.0) more }))
  of_expr first more =
      let others : List Exclusive = map (λ (q : PExclusive). q.0) more in
      judged_to S _ _ _ _ (at-expr (expression_types tags) first.0 others) (at-expr (expression_parts tags) first.0 others)
      (plain_judged S (logic c.Or) (fold_exclusive (expression_types tags)) (fold_exclusive (expression_parts tags)) (λ a x k. record { left = kind.Bool; right = kind.Bool; operator = c.Or; is = refl }) more (fold_exclusive (expression_types tags) first.0) (fold_exclusive (expression_parts tags) first.0) first.1)

  of_expr_layer : (x : Expr-F Primary Unary Arguments Comparison Conjunction Equality Exclusive Expr Product Sum) (y : Expr-F PPrimary PUnary PArguments PComparison PConjunction PEquality PExclusive PExpr PProduct PSum) → map-Expr PPrimary PUnary PArguments PComparison PConjunction PEquality PExclusive PExpr PProduct PSum Primary Unary Arguments Comparison Conjunction Equality Exclusive Expr Product Sum (λ q. q.0) (λ q. q.0) (λ q. q.0) (λ q. q.0) (λ q. q.0) (λ q. q.0) (λ q. q.0) (λ q. q.0) (λ q. q.0) (λ q. q.0) y ≡ x → OfExpr (roll-Expr x)
  of_expr_layer x y is = subst (λ z. OfExpr (roll-Expr z)) is (of_expr y.first y.more)

  several_judged : (more : List PExpr) → AllJudged S (map (fold_expr (expression_types tags)) (map (λ (q : PExpr). q.0) more)) (map (fold_expr (expression_parts tags)) (map (λ (q : PExpr). q.0) more))
  unfolding AllJudged
  several_judged [] = tt
  several_judged (q ∷ qs) = (q.1, several_judged qs)

  of_arguments : (first : PExpr) (more : List PExpr) → OfArguments (roll-Arguments (record { first = first.0; more = map (λ (q : PExpr). q.0) more }))
  unfolding AllJudged
  of_arguments first more =
      let others : List Expr = map (λ (q : PExpr). q.0) more in
      let made : Arguments = roll-Arguments (record { first = first.0; more = others }) in
      subst (λ ts. AllJudged S ts (fold_arguments (expression_parts tags) made)) (sym (at-arguments (expression_types tags) first.0 others))
      (subst (λ es. AllJudged S (fold_expr (expression_types tags) first.0 ∷ map (fold_expr (expression_types tags)) others) es) (sym (at-arguments (expression_parts tags) first.0 others)) (first.1, several_judged more))

  of_arguments_layer : (x : Arguments-F Primary Unary Arguments Comparison Conjunction Equality Exclusive Expr Product Sum) (y : Arguments-F PPrimary PUnary PArguments PComparison PConjunction PEquality PExclusive PExpr PProduct PSum) → map-Arguments PPrimary PUnary PArguments PComparison PConjunction PEquality PExclusive PExpr PProduct PSum Primary Unary Arguments Comparison Conjunction Equality Exclusive Expr Product Sum (λ q. q.0) (λ q. q.0) (λ q. q.0) (λ q. q.0) (λ q. q.0) (λ q. q.0) (λ q. q.0) (λ q. q.0) (λ q. q.0) (λ q. q.0) y ≡ x → OfArguments (roll-Arguments x)
  of_arguments_layer x y is = subst (λ z. OfArguments (roll-Arguments z)) is (of_arguments y.first y.more)

  of_unary_layer : (x : Unary-F Primary Unary Arguments Comparison Conjunction Equality Exclusive Expr Product Sum) (y : Unary-F PPrimary PUnary PArguments PComparison PConjunction PEquality PExclusive PExpr PProduct PSum) → map-Unary PPrimary PUnary PArguments PComparison PConjunction PEquality PExclusive PExpr PProduct PSum Primary Unary Arguments Comparison Conjunction Equality Exclusive Expr Product Sum (λ q. q.0) (λ q. q.0) (λ q. q.0) (λ q. q.0) (λ q. q.0) (λ q. q.0) (λ q. q.0) (λ q. q.0) (λ q. q.0) (λ q. q.0) y ≡ x → OfUnary (roll-Unary x)
  of_unary_layer x (Unary-F.Plain q) is = subst (λ z. OfUnary (roll-Unary z)) is
      (judged_to S _ _ _ _ (ap (fold_unary (expression_types tags)) (rolls-Plain q.0) ∙ at-plain (expression_types tags) q.0) (ap (fold_unary (expression_parts tags)) (rolls-Plain q.0) ∙ at-plain (expression_parts tags) q.0)
      (unsigned_judged S (fold_primary (expression_types tags) q.0) (fold_primary (expression_parts tags) q.0) q.1))
  of_unary_layer x (Unary-F.Minus place q) is = subst (λ z. OfUnary (roll-Unary z)) is
      (judged_to S _ _ _ _ (ap (fold_unary (expression_types tags)) (rolls-Minus place q.0) ∙ at-minus (expression_types tags) place q.0) (ap (fold_unary (expression_parts tags)) (rolls-Minus place q.0) ∙ at-minus (expression_parts tags) place q.0)
      (once_then (λ h k. negated_fits S k (fold_primary (expression_parts tags) q.0) h) (negated place (fold_primary (expression_types tags) q.0)).outcome (negated_judged S place (fold_primary (expression_types tags) q.0) (fold_primary (expression_parts tags) q.0) q.1)))
  of_unary_layer x (Unary-F.Not place q) is = subst (λ z. OfUnary (roll-Unary z)) is
      (judged_to S _ _ _ _ (ap (fold_unary (expression_types tags)) (rolls-Not place q.0) ∙ at-not (expression_types tags) place q.0) (ap (fold_unary (expression_parts tags)) (rolls-Not place q.0) ∙ at-not (expression_parts tags) place q.0)
      (once_then (λ h k. unary_fits S c.Not ((fold_primary (expression_parts tags) q.0).asked kind.Bool) tt (h kind.Bool)) (asked_of kind.Bool (unsigned (fold_primary (expression_types tags) q.0)).first (unsigned (fold_primary (expression_types tags) q.0)).outcome) (truth_then (Fit S (fold_primary (expression_parts tags) q.0)) (unsigned (fold_primary (expression_types tags) q.0)).first (unsigned (fold_primary (expression_types tags) q.0)).outcome (unsigned_judged S (fold_primary (expression_types tags) q.0) (fold_primary (expression_parts tags) q.0) q.1))))

  of_primary_layer : (x : Primary-F Primary Unary Arguments Comparison Conjunction Equality Exclusive Expr Product Sum) (y : Primary-F PPrimary PUnary PArguments PComparison PConjunction PEquality PExclusive PExpr PProduct PSum) → map-Primary PPrimary PUnary PArguments PComparison PConjunction PEquality PExclusive PExpr PProduct PSum Primary Unary Arguments Comparison Conjunction Equality Exclusive Expr Product Sum (λ q. q.0) (λ q. q.0) (λ q. q.0) (λ q. q.0) (λ q. q.0) (λ q. q.0) (λ q. q.0) (λ q. q.0) (λ q. q.0) (λ q. q.0) y ≡ x → OfPrimary (roll-Primary x)
  of_primary_layer x (Primary-F.Number n place) is = subst (λ z. OfPrimary (roll-Primary z)) is
      (primary_to S _ _ _ _ (ap (fold_primary (expression_types tags)) (rolls-Number n place) ∙ at-number (expression_types tags) n place) (ap (fold_primary (expression_parts tags)) (rolls-Number n place) ∙ at-number (expression_parts tags) n place)
      (λ k. refl))
  of_primary_layer x (Primary-F.Truth b place) is = subst (λ z. OfPrimary (roll-Primary z)) is
      (primary_to S _ _ _ _ (ap (fold_primary (expression_types tags)) (rolls-Truth b place) ∙ at-truth (expression_types tags) b place) (ap (fold_primary (expression_parts tags)) (rolls-Truth b place) ∙ at-truth (expression_parts tags) b place)
      (λ k. literal_fits S (number b) (number_fits b)))
  of_primary_layer x (Primary-F.Tag n) is = subst (λ z. OfPrimary (roll-Primary z)) is
      (primary_to S _ _ _ _ (ap (fold_primary (expression_types tags)) (rolls-Tag n) ∙ at-tag (expression_types tags) n) (ap (fold_primary (expression_parts tags)) (rolls-Tag n) ∙ at-tag (expression_parts tags) n)
      (tag_judged tags all n (tag_named tags n.name) refl))
  of_primary_layer x (Primary-F.Field n f) is = subst (λ z. OfPrimary (roll-Primary z)) is
      (primary_to S _ _ _ _ (ap (fold_primary (expression_types tags)) (rolls-Field n f) ∙ at-field (expression_types tags) n f) (ap (fold_primary (expression_parts tags)) (rolls-Field n f) ∙ at-field (expression_parts tags) n f)
      (field_judged tags all n f (tag_named tags n.name) refl))
  of_primary_layer x (Primary-F.Element n e) is = subst (λ z. OfPrimary (roll-Primary z)) is
      (primary_to S _ _ _ _ (ap (fold_primary (expression_types tags)) (rolls-Element n e.0) ∙ at-element (expression_types tags) n e.0) (ap (fold_primary (expression_parts tags)) (rolls-Element n e.0) ∙ at-element (expression_parts tags) n e.0)
      (element_judged tags all n (fold_expr (expression_types tags) e.0) (fold_expr (expression_parts tags) e.0) (tag_named tags n.name) e.1 refl))
  of_primary_layer x (Primary-F.Bracketed place e) is = subst (λ z. OfPrimary (roll-Primary z)) is
      (primary_to S _ _ _ _ (ap (fold_primary (expression_types tags)) (rolls-Bracketed place e.0) ∙ at-bracketed (expression_types tags) place e.0) (ap (fold_primary (expression_parts tags)) (rolls-Bracketed place e.0) ∙ at-bracketed (expression_parts tags) place e.0)
      (e.1))
  of_primary_layer x (Primary-F.Call f place a) is = subst (λ z. OfPrimary (roll-Primary z)) is
      (primary_to S _ _ _ _ (ap (fold_primary (expression_types tags)) (rolls-Call f place a.0) ∙ at-call (expression_types tags) f place a.0) (ap (fold_primary (expression_parts tags)) (rolls-Call f place a.0) ∙ at-call (expression_parts tags) f place a.0)
      (once_then (call_fits S f (fold_arguments (expression_parts tags) a.0)) (called f place (fold_arguments (expression_types tags) a.0)) (called_then S f place (fold_arguments (expression_types tags) a.0) (fold_arguments (expression_parts tags) a.0) a.1)))

  -- the term of an expression without a fault fits
  pub expression_judged : (e : Expr) → Judged S (typing_of tags e) (elaborated tags e)
  unfolding elaborated
  expression_judged = ind-Expr OfPrimary OfUnary OfArguments OfComparison OfConjunction OfEquality OfExclusive OfExpr OfProduct OfSum of_primary_layer of_unary_layer of_arguments_layer of_comparison_layer of_conjunction_layer of_equality_layer of_exclusive_layer of_expr_layer of_product_layer of_sum_layer
