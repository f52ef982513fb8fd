-- How deep expressions nest.
use Rattle.std.proofs.Common.{◌≡◌, ℕ, ◌+◌, max, Bool, true, false, List, [], ◌∷◌, map, fold, refl, ap, ◌∙◌, subst}
use Rattle.st_tree.specs.declared.token.Fixed.TheVariants as w
use Rattle.st_tree.specs.declared.token.TokenKind.TheVariants as kind
use Rattle.st_tree.specs.declared.expression.Operation.{Operation}
use Rattle.st_tree.specs.declared.expression.EqualOperator.{EqualOperator}
use Rattle.st_tree.specs.declared.expression.EqualOperator.TheVariants as equal
use Rattle.st_tree.specs.declared.expression.CompareOperator.{CompareOperator}
use Rattle.st_tree.specs.declared.expression.CompareOperator.TheVariants as compare
use Rattle.st_tree.specs.declared.expression.AddOperator.{AddOperator}
use Rattle.st_tree.specs.declared.expression.AddOperator.TheVariants as add
use Rattle.st_tree.specs.declared.expression.MultiplyOperator.{MultiplyOperator}
use Rattle.st_tree.specs.declared.expression.MultiplyOperator.TheVariants as multiply
use Rattle.st_tree.specs.declared.expression.Function.{Function}
use Rattle.st_tree.specs.declared.expression.Function.TheVariants as function
use Rattle.st_tree.specs.declared.expression.Primary.{Primary, roll-Primary, map-Primary}
use Rattle.st_tree.specs.declared.expression.Unary.{Unary, roll-Unary, map-Unary}
use Rattle.st_tree.specs.declared.expression.Arguments.{Arguments, roll-Arguments, map-Arguments}
use Rattle.st_tree.specs.declared.expression.Comparison.{Comparison, roll-Comparison, map-Comparison}
use Rattle.st_tree.specs.declared.expression.Conjunction.{Conjunction, roll-Conjunction, map-Conjunction}
use Rattle.st_tree.specs.declared.expression.Equality.{Equality, roll-Equality, map-Equality}
use Rattle.st_tree.specs.declared.expression.Exclusive.{Exclusive, roll-Exclusive, map-Exclusive}
use Rattle.st_tree.specs.declared.expression.Expr.{Expr, roll-Expr, map-Expr, ind-Expr}
use Rattle.st_tree.specs.declared.expression.Product.{Product, roll-Product, map-Product}
use Rattle.st_tree.specs.declared.expression.Sum.{Sum, roll-Sum, map-Sum}
use Rattle.st_tree.specs.declared.expression.Primary.TheVariants.{rolls-Number, rolls-Truth, rolls-Tag, rolls-Field, rolls-Element, rolls-Bracketed, rolls-Call}
use Rattle.st_tree.specs.declared.expression.Unary.TheVariants.{rolls-Plain, rolls-Minus, rolls-Not}
use Rattle.st_tree.specs.declared.expression.Primary.TheOpen.{Primary-F, Unary-F, Arguments-F, Comparison-F, Conjunction-F, Equality-F, Exclusive-F, Expr-F, Product-F, Sum-F}
use Rattle.st_tree.specs.Listed.{operands}
use Rattle.st_tree.specs.Pieces.{Anywhere, Placed, ◌·◌, word}
use Rattle.st_tree.specs.ExpressionFolds.{fold_primary, fold_unary, fold_arguments, fold_comparison, fold_conjunction, fold_equality, fold_exclusive, fold_expr, fold_product, fold_sum}
use Rattle.st_tree.specs.TreeNesting.{expression_nestings, expr_nesting}
use Rattle.st_tree.specs.Nesting.{nesting_with}
use Rattle.st_tree.specs.Expressions.{equal_word, compare_word, add_word, multiply_word, function_word, truth_word, spell_expr}
use Rattle.st_tree.proofs.ExpressionEquations.{with_operand, at-number, at-truth, at-tag, at-field, at-element, at-bracketed, at-call, at-plain, at-minus, at-not, at-arguments, at-comparison, at-conjunction, at-equality, at-exclusive, at-expr, at-product, at-sum}
use Rattle.st_parser.proofs.Spelling.{spell_operation, spell_primary, spell_unary, spell_arguments, spell_comparison, spell_conjunction, spell_equality, spell_exclusive, spell_product, spell_sum, arguments-is, comparison-is, conjunction-is, equality-is, exclusive-is, expr-is, product-is, sum-is, number-is, truth-is, tag-is, field-is, element-is, bracketed-is, call-is, plain-is, minus-is, not-is}
use Rattle.st_parser.proofs.PieceNesting.{Nests, nests_to, nests_piece, nests_bracket, nests_behind, nests_more, closes_one}

-- ---- words that neither open nor close

quiet_equal : (o : EqualOperator) (d : ℕ) → nesting_with d (kind.Fixed (equal_word o)) ≡ d
quiet_equal equal.Equal d = refl
quiet_equal equal.Unequal d = refl

quiet_compare : (o : CompareOperator) (d : ℕ) → nesting_with d (kind.Fixed (compare_word o)) ≡ d
quiet_compare compare.Less d = refl
quiet_compare compare.Greater d = refl
quiet_compare compare.AtMost d = refl
quiet_compare compare.AtLeast d = refl

quiet_add : (o : AddOperator) (d : ℕ) → nesting_with d (kind.Fixed (add_word o)) ≡ d
quiet_add add.Add d = refl
quiet_add add.Subtract d = refl

quiet_multiply : (o : MultiplyOperator) (d : ℕ) → nesting_with d (kind.Fixed (multiply_word o)) ≡ d
quiet_multiply multiply.Multiply d = refl
quiet_multiply multiply.Divide d = refl
quiet_multiply multiply.Modulo d = refl

quiet_function : (o : Function) (d : ℕ) → nesting_with d (kind.Fixed (function_word o)) ≡ d
quiet_function function.Abs d = refl
quiet_function function.Min d = refl
quiet_function function.Max d = refl
quiet_function function.Limit d = refl
quiet_function function.Sel d = refl
quiet_function function.IntToDint d = refl
quiet_function function.DintToInt d = refl

pub quiet_truth : (b : Bool) (d : ℕ) → nesting_with d (kind.Fixed (truth_word b)) ≡ d
quiet_truth true d = refl
quiet_truth false d = refl

-- ---- an expression of each sort, of which it is known

abbrev OfPrimary : Primary → Type 0
OfPrimary x = Nests (spell_primary x) (fold_primary expression_nestings x)

abbrev PPrimary : Type 0
PPrimary = (x : Primary) × OfPrimary x

abbrev OfUnary : Unary → Type 0
OfUnary x = Nests (spell_unary x) (fold_unary expression_nestings x)

abbrev PUnary : Type 0
PUnary = (x : Unary) × OfUnary x

abbrev OfArguments : Arguments → Type 0
OfArguments x = Nests (spell_arguments x) (fold_arguments expression_nestings x)

abbrev PArguments : Type 0
PArguments = (x : Arguments) × OfArguments x

abbrev OfComparison : Comparison → Type 0
OfComparison x = Nests (spell_comparison x) (fold_comparison expression_nestings x)

abbrev PComparison : Type 0
PComparison = (x : Comparison) × OfComparison x

abbrev OfConjunction : Conjunction → Type 0
OfConjunction x = Nests (spell_conjunction x) (fold_conjunction expression_nestings x)

abbrev PConjunction : Type 0
PConjunction = (x : Conjunction) × OfConjunction x

abbrev OfEquality : Equality → Type 0
OfEquality x = Nests (spell_equality x) (fold_equality expression_nestings x)

abbrev PEquality : Type 0
PEquality = (x : Equality) × OfEquality x

abbrev OfExclusive : Exclusive → Type 0
OfExclusive x = Nests (spell_exclusive x) (fold_exclusive expression_nestings x)

abbrev PExclusive : Type 0
PExclusive = (x : Exclusive) × OfExclusive x

abbrev OfExpr : Expr → Type 0
OfExpr x = Nests (spell_expr x) (fold_expr expression_nestings x)

abbrev PExpr : Type 0
PExpr = (x : Expr) × OfExpr x

abbrev OfProduct : Product → Type 0
OfProduct x = Nests (spell_product x) (fold_product expression_nestings x)

abbrev PProduct : Type 0
PProduct = (x : Product) × OfProduct x

abbrev OfSum : Sum → Type 0
OfSum x = Nests (spell_sum x) (fold_sum expression_nestings x)

abbrev PSum : Type 0
PSum = (x : Sum) × OfSum x

operands_replaced : {O X : Type 0} (f : X → ℕ) (more : List (Operation O X)) → operands (map (with_operand f) more) ≡ map (λ x. f x.operand) more
operands_replaced f [] = refl
operands_replaced f (x ∷ xs) = ap (λ ns. f x.operand ∷ ns) (operands_replaced f xs)

of_product : (first : PUnary) (more : List (Operation MultiplyOperator PUnary)) → OfProduct (roll-Product (record { first = first.0; more = map (with_operand (λ (q : PUnary). q.0)) more }))
of_product first more =
    let others : List (Operation MultiplyOperator Unary) = map (with_operand (λ (q : PUnary). q.0)) more in
    nests_to _ _ _ _ (product-is first.0 others) (at-product expression_nestings first.0 others ∙ ap (fold max (fold_unary expression_nestings first.0)) (operands_replaced (fold_unary expression_nestings) others))
    (nests_more (spell_operation multiply_word spell_unary) (λ (x : Operation MultiplyOperator Unary). fold_unary expression_nestings x.operand) (with_operand (λ (q : PUnary). q.0))
    (λ x. nests_behind (Anywhere (kind.Fixed (multiply_word x.operator))) (spell_unary x.operand.0) (fold_unary expression_nestings x.operand.0) (quiet_multiply x.operator) x.operand.1) more (spell_unary first.0) (fold_unary expression_nestings first.0) first.1)

of_product_layer : (x : Product-F Primary Unary Arguments Comparison Conjunction Equality Exclusive Expr Product Sum) (y : Product-F PPrimary PUnary PArguments PComparison PConjunction PEquality PExclusive PExpr PProduct PSum) → map-Product PPrimary PUnary PArguments PComparison PConjunction PEquality PExclusive PExpr PProduct PSum Primary Unary Arguments Comparison Conjunction Equality Exclusive Expr Product Sum (λ q. q.0) (λ q. q.0) (λ q. q.0) (λ q. q.0) (λ q. q.0) (λ q. q.0) (λ q. q.0) (λ q. q.0) (λ q. q.0) (λ q. q.0) y ≡ x → OfProduct (roll-Product x)
of_product_layer x y is = subst (λ z. OfProduct (roll-Product z)) is (of_product y.first y.more)

of_sum : (first : PProduct) (more : List (Operation AddOperator PProduct)) → OfSum (roll-Sum (record { first = first.0; more = map (with_operand (λ (q : PProduct). q.0)) more }))
of_sum first more =
    let others : List (Operation AddOperator Product) = map (with_operand (λ (q : PProduct). q.0)) more in
    nests_to _ _ _ _ (sum-is first.0 others) (at-sum expression_nestings first.0 others ∙ ap (fold max (fold_product expression_nestings first.0)) (operands_replaced (fold_product expression_nestings) others))
    (nests_more (spell_operation add_word spell_product) (λ (x : Operation AddOperator Product). fold_product expression_nestings x.operand) (with_operand (λ (q : PProduct). q.0))
    (λ x. nests_behind (Anywhere (kind.Fixed (add_word x.operator))) (spell_product x.operand.0) (fold_product expression_nestings x.operand.0) (quiet_add x.operator) x.operand.1) more (spell_product first.0) (fold_product expression_nestings first.0) first.1)

of_sum_layer : (x : Sum-F Primary Unary Arguments Comparison Conjunction Equality Exclusive Expr Product Sum) (y : Sum-F PPrimary PUnary PArguments PComparison PConjunction PEquality PExclusive PExpr PProduct PSum) → map-Sum PPrimary PUnary PArguments PComparison PConjunction PEquality PExclusive PExpr PProduct PSum Primary Unary Arguments Comparison Conjunction Equality Exclusive Expr Product Sum (λ q. q.0) (λ q. q.0) (λ q. q.0) (λ q. q.0) (λ q. q.0) (λ q. q.0) (λ q. q.0) (λ q. q.0) (λ q. q.0) (λ q. q.0) y ≡ x → OfSum (roll-Sum x)
of_sum_layer x y is = subst (λ z. OfSum (roll-Sum z)) is (of_sum y.first y.more)

of_comparison : (first : PSum) (more : List (Operation CompareOperator PSum)) → OfComparison (roll-Comparison (record { first = first.0; more = map (with_operand (λ (q : PSum). q.0)) more }))
of_comparison first more =
    let others : List (Operation CompareOperator Sum) = map (with_operand (λ (q : PSum). q.0)) more in
    nests_to _ _ _ _ (comparison-is first.0 others) (at-comparison expression_nestings first.0 others ∙ ap (fold max (fold_sum expression_nestings first.0)) (operands_replaced (fold_sum expression_nestings) others))
    (nests_more (spell_operation compare_word spell_sum) (λ (x : Operation CompareOperator Sum). fold_sum expression_nestings x.operand) (with_operand (λ (q : PSum). q.0))
    (λ x. nests_behind (Anywhere (kind.Fixed (compare_word x.operator))) (spell_sum x.operand.0) (fold_sum expression_nestings x.operand.0) (quiet_compare x.operator) x.operand.1) more (spell_sum first.0) (fold_sum expression_nestings first.0) first.1)

of_comparison_layer : (x : Comparison-F Primary Unary Arguments Comparison Conjunction Equality Exclusive Expr Product Sum) (y : Comparison-F PPrimary PUnary PArguments PComparison PConjunction PEquality PExclusive PExpr PProduct PSum) → map-Comparison PPrimary PUnary PArguments PComparison PConjunction PEquality PExclusive PExpr PProduct PSum Primary Unary Arguments Comparison Conjunction Equality Exclusive Expr Product Sum (λ q. q.0) (λ q. q.0) (λ q. q.0) (λ q. q.0) (λ q. q.0) (λ q. q.0) (λ q. q.0) (λ q. q.0) (λ q. q.0) (λ q. q.0) y ≡ x → OfComparison (roll-Comparison x)
of_comparison_layer x y is = subst (λ z. OfComparison (roll-Comparison z)) is (of_comparison y.first y.more)

of_equality : (first : PComparison) (more : List (Operation EqualOperator PComparison)) → OfEquality (roll-Equality (record { first = first.0; more = map (with_operand (λ (q : PComparison). q.0)) more }))
of_equality first more =
    let others : List (Operation EqualOperator Comparison) = map (with_operand (λ (q : PComparison). q.0)) more in
    nests_to _ _ _ _ (equality-is first.0 others) (at-equality expression_nestings first.0 others ∙ ap (fold max (fold_comparison expression_nestings first.0)) (operands_replaced (fold_comparison expression_nestings) others))
    (nests_more (spell_operation equal_word spell_comparison) (λ (x : Operation EqualOperator Comparison). fold_comparison expression_nestings x.operand) (with_operand (λ (q : PComparison). q.0))
    (λ x. nests_behind (Anywhere (kind.Fixed (equal_word x.operator))) (spell_comparison x.operand.0) (fold_comparison expression_nestings x.operand.0) (quiet_equal x.operator) x.operand.1) more (spell_comparison first.0) (fold_comparison expression_nestings first.0) first.1)

of_equality_layer : (x : Equality-F Primary Unary Arguments Comparison Conjunction Equality Exclusive Expr Product Sum) (y : Equality-F PPrimary PUnary PArguments PComparison PConjunction PEquality PExclusive PExpr PProduct PSum) → map-Equality PPrimary PUnary PArguments PComparison PConjunction PEquality PExclusive PExpr PProduct PSum Primary Unary Arguments Comparison Conjunction Equality Exclusive Expr Product Sum (λ q. q.0) (λ q. q.0) (λ q. q.0) (λ q. q.0) (λ q. q.0) (λ q. q.0) (λ q. q.0) (λ q. q.0) (λ q. q.0) (λ q. q.0) y ≡ x → OfEquality (roll-Equality x)
of_equality_layer x y is = subst (λ z. OfEquality (roll-Equality z)) is (of_equality y.first y.more)

of_conjunction : (first : PEquality) (more : List PEquality) → OfConjunction (roll-Conjunction (record { first = first.0; more = map (λ (q : PEquality). q.0) more }))
of_conjunction first more =
    let others : List Equality = map (λ (q : PEquality). q.0) more in
    nests_to _ _ _ _ (conjunction-is first.0 others) (at-conjunction expression_nestings first.0 others)
    (nests_more (λ x. word w.And · spell_equality x) (fold_equality expression_nestings) (λ (q : PEquality). q.0)
    (λ q. nests_behind (Anywhere (kind.Fixed w.And)) (spell_equality q.0) (fold_equality expression_nestings q.0) (λ d. refl) q.1) more (spell_equality first.0) (fold_equality expression_nestings first.0) first.1)

of_conjunction_layer : (x : Conjunction-F Primary Unary Arguments Comparison Conjunction Equality Exclusive Expr Product Sum) (y : Conjunction-F PPrimary PUnary PArguments PComparison PConjunction PEquality PExclusive PExpr PProduct PSum) → map-Conjunction PPrimary PUnary PArguments PComparison PConjunction PEquality PExclusive PExpr PProduct PSum Primary Unary Arguments Comparison Conjunction Equality Exclusive Expr Product Sum (λ q. q.0) (λ q. q.0) (λ q. q.0) (λ q. q.0) (λ q. q.0) (λ q. q.0) (λ q. q.0) (λ q. q.0) (λ q. q.0) (λ q. q.0) y ≡ x → OfConjunction (roll-Conjunction x)
of_conjunction_layer x y is = subst (λ z. OfConjunction (roll-Conjunction z)) is (of_conjunction y.first y.more)

of_exclusive : (first : PConjunction) (more : List PConjunction) → OfExclusive (roll-Exclusive (record { first = first.0; more = map (λ (q : PConjunction). q.0) more }))
of_exclusive first more =
    let others : List Conjunction = map (λ (q : PConjunction). q.0) more in
    nests_to _ _ _ _ (exclusive-is first.0 others) (at-exclusive expression_nestings first.0 others)
    (nests_more (λ x. word w.Xor · spell_conjunction x) (fold_conjunction expression_nestings) (λ (q : PConjunction). q.0)
    (λ q. nests_behind (Anywhere (kind.Fixed w.Xor)) (spell_conjunction q.0) (fold_conjunction expression_nestings q.0) (λ d. refl) q.1) more (spell_conjunction first.0) (fold_conjunction expression_nestings first.0) first.1)

of_exclusive_layer : (x : Exclusive-F Primary Unary Arguments Comparison Conjunction Equality Exclusive Expr Product Sum) (y : Exclusive-F PPrimary PUnary PArguments PComparison PConjunction PEquality PExclusive PExpr PProduct PSum) → map-Exclusive PPrimary PUnary PArguments PComparison PConjunction PEquality PExclusive PExpr PProduct PSum Primary Unary Arguments Comparison Conjunction Equality Exclusive Expr Product Sum (λ q. q.0) (λ q. q.0) (λ q. q.0) (λ q. q.0) (λ q. q.0) (λ q. q.0) (λ q. q.0) (λ q. q.0) (λ q. q.0) (λ q. q.0) y ≡ x → OfExclusive (roll-Exclusive x)
of_exclusive_layer x y is = subst (λ z. OfExclusive (roll-Exclusive z)) is (of_exclusive y.first y.more)

of_expr : (first : PExclusive) (more : List PExclusive) → OfExpr (roll-Expr (record { first = first.0; more = map (λ (q : PExclusive). q.0) more }))
unfolding expr_nesting
of_expr first more =
    let others : List Exclusive = map (λ (q : PExclusive). q.0) more in
    nests_to _ _ _ _ (expr-is first.0 others) (at-expr expression_nestings first.0 others)
    (nests_more (λ x. word w.Or · spell_exclusive x) (fold_exclusive expression_nestings) (λ (q : PExclusive). q.0)
    (λ q. nests_behind (Anywhere (kind.Fixed w.Or)) (spell_exclusive q.0) (fold_exclusive expression_nestings q.0) (λ d. refl) q.1) more (spell_exclusive first.0) (fold_exclusive expression_nestings first.0) first.1)

of_expr_layer : (x : Expr-F Primary Unary Arguments Comparison Conjunction Equality Exclusive Expr Product Sum) (y : Expr-F PPrimary PUnary PArguments PComparison PConjunction PEquality PExclusive PExpr PProduct PSum) → map-Expr PPrimary PUnary PArguments PComparison PConjunction PEquality PExclusive PExpr PProduct PSum Primary Unary Arguments Comparison Conjunction Equality Exclusive Expr Product Sum (λ q. q.0) (λ q. q.0) (λ q. q.0) (λ q. q.0) (λ q. q.0) (λ q. q.0) (λ q. q.0) (λ q. q.0) (λ q. q.0) (λ q. q.0) y ≡ x → OfExpr (roll-Expr x)
of_expr_layer x y is = subst (λ z. OfExpr (roll-Expr z)) is (of_expr y.first y.more)

of_arguments : (first : PExpr) (more : List PExpr) → OfArguments (roll-Arguments (record { first = first.0; more = map (λ (q : PExpr). q.0) more }))
unfolding expr_nesting
of_arguments first more =
    let others : List Expr = map (λ (q : PExpr). q.0) more in
    nests_to _ _ _ _ (arguments-is first.0 others) (at-arguments expression_nestings first.0 others)
    (nests_more (λ x. word w.Comma · spell_expr x) (fold_expr expression_nestings) (λ (q : PExpr). q.0)
    (λ q. nests_behind (Anywhere (kind.Fixed w.Comma)) (spell_expr q.0) (fold_expr expression_nestings q.0) (λ d. refl) q.1) more (spell_expr first.0) (fold_expr expression_nestings first.0) first.1)

of_arguments_layer : (x : Arguments-F Primary Unary Arguments Comparison Conjunction Equality Exclusive Expr Product Sum) (y : Arguments-F PPrimary PUnary PArguments PComparison PConjunction PEquality PExclusive PExpr PProduct PSum) → map-Arguments PPrimary PUnary PArguments PComparison PConjunction PEquality PExclusive PExpr PProduct PSum Primary Unary Arguments Comparison Conjunction Equality Exclusive Expr Product Sum (λ q. q.0) (λ q. q.0) (λ q. q.0) (λ q. q.0) (λ q. q.0) (λ q. q.0) (λ q. q.0) (λ q. q.0) (λ q. q.0) (λ q. q.0) y ≡ x → OfArguments (roll-Arguments x)
of_arguments_layer x y is = subst (λ z. OfArguments (roll-Arguments z)) is (of_arguments y.first y.more)

of_unary_layer : (x : Unary-F Primary Unary Arguments Comparison Conjunction Equality Exclusive Expr Product Sum) (y : Unary-F PPrimary PUnary PArguments PComparison PConjunction PEquality PExclusive PExpr PProduct PSum) → map-Unary PPrimary PUnary PArguments PComparison PConjunction PEquality PExclusive PExpr PProduct PSum Primary Unary Arguments Comparison Conjunction Equality Exclusive Expr Product Sum (λ q. q.0) (λ q. q.0) (λ q. q.0) (λ q. q.0) (λ q. q.0) (λ q. q.0) (λ q. q.0) (λ q. q.0) (λ q. q.0) (λ q. q.0) y ≡ x → OfUnary (roll-Unary x)
of_unary_layer x (Unary-F.Plain q) is = subst (λ z. OfUnary (roll-Unary z)) is
    (nests_to _ _ _ _ (ap spell_unary (rolls-Plain q.0) ∙ plain-is q.0) (ap (fold_unary expression_nestings) (rolls-Plain q.0) ∙ at-plain expression_nestings q.0) (q.1))
of_unary_layer x (Unary-F.Minus place q) is = subst (λ z. OfUnary (roll-Unary z)) is
    (nests_to _ _ _ _ (ap spell_unary (rolls-Minus place q.0) ∙ minus-is place q.0) (ap (fold_unary expression_nestings) (rolls-Minus place q.0) ∙ at-minus expression_nestings place q.0) (nests_behind (Placed (kind.Fixed w.Minus) place) (spell_primary q.0) (fold_primary expression_nestings q.0) (λ d. refl) q.1))
of_unary_layer x (Unary-F.Not place q) is = subst (λ z. OfUnary (roll-Unary z)) is
    (nests_to _ _ _ _ (ap spell_unary (rolls-Not place q.0) ∙ not-is place q.0) (ap (fold_unary expression_nestings) (rolls-Not place q.0) ∙ at-not expression_nestings place q.0) (nests_behind (Placed (kind.Fixed w.Not) place) (spell_primary q.0) (fold_primary expression_nestings q.0) (λ d. refl) q.1))

of_primary_layer : (x : Primary-F Primary Unary Arguments Comparison Conjunction Equality Exclusive Expr Product Sum) (y : Primary-F PPrimary PUnary PArguments PComparison PConjunction PEquality PExclusive PExpr PProduct PSum) → map-Primary PPrimary PUnary PArguments PComparison PConjunction PEquality PExclusive PExpr PProduct PSum Primary Unary Arguments Comparison Conjunction Equality Exclusive Expr Product Sum (λ q. q.0) (λ q. q.0) (λ q. q.0) (λ q. q.0) (λ q. q.0) (λ q. q.0) (λ q. q.0) (λ q. q.0) (λ q. q.0) (λ q. q.0) y ≡ x → OfPrimary (roll-Primary x)
of_primary_layer x (Primary-F.Number n place) is = subst (λ z. OfPrimary (roll-Primary z)) is
    (nests_to _ _ _ _ (ap spell_primary (rolls-Number n place) ∙ number-is n place) (ap (fold_primary expression_nestings) (rolls-Number n place) ∙ at-number expression_nestings n place)
    (nests_piece (Placed (kind.Number n) place) (λ d. refl)))
of_primary_layer x (Primary-F.Truth b place) is = subst (λ z. OfPrimary (roll-Primary z)) is
    (nests_to _ _ _ _ (ap spell_primary (rolls-Truth b place) ∙ truth-is b place) (ap (fold_primary expression_nestings) (rolls-Truth b place) ∙ at-truth expression_nestings b place)
    (nests_piece (Placed (kind.Fixed (truth_word b)) place) (quiet_truth b)))
of_primary_layer x (Primary-F.Tag tag) is = subst (λ z. OfPrimary (roll-Primary z)) is
    (nests_to _ _ _ _ (ap spell_primary (rolls-Tag tag) ∙ tag-is tag) (ap (fold_primary expression_nestings) (rolls-Tag tag) ∙ at-tag expression_nestings tag)
    (nests_piece (Placed (kind.Name tag.name) tag.place) (λ d. refl)))
of_primary_layer x (Primary-F.Field a b) is = subst (λ z. OfPrimary (roll-Primary z)) is
    (nests_to _ _ _ _ (ap spell_primary (rolls-Field a b) ∙ field-is a b) (ap (fold_primary expression_nestings) (rolls-Field a b) ∙ at-field expression_nestings a b)
    (nests_behind (Placed (kind.Name a.name) a.place) _ 0 (λ d. refl) (nests_behind (Anywhere (kind.Fixed w.Dot)) _ 0 (λ d. refl) (nests_piece (Placed (kind.Name b.name) b.place) (λ d. refl)))))
of_primary_layer x (Primary-F.Element array e) is = subst (λ z. OfPrimary (roll-Primary z)) is
    (nests_to _ _ _ _ (ap spell_primary (rolls-Element array e.0) ∙ element-is array e.0) (ap (fold_primary expression_nestings) (rolls-Element array e.0) ∙ at-element expression_nestings array e.0)
    (nests_behind (Placed (kind.Name array.name) array.place) _ (fold_expr expression_nestings e.0 + 1) (λ d. refl) (nests_bracket (Anywhere (kind.Fixed w.OpenBracket)) (Anywhere (kind.Fixed w.CloseBracket)) (spell_expr e.0) (fold_expr expression_nestings e.0) (λ d. refl) closes_one e.1)))
of_primary_layer x (Primary-F.Bracketed place e) is = subst (λ z. OfPrimary (roll-Primary z)) is
    (nests_to _ _ _ _ (ap spell_primary (rolls-Bracketed place e.0) ∙ bracketed-is place e.0) (ap (fold_primary expression_nestings) (rolls-Bracketed place e.0) ∙ at-bracketed expression_nestings place e.0)
    (nests_bracket (Placed (kind.Fixed w.OpenParen) place) (Anywhere (kind.Fixed w.CloseParen)) (spell_expr e.0) (fold_expr expression_nestings e.0) (λ d. refl) closes_one e.1))
of_primary_layer x (Primary-F.Call f place args) is = subst (λ z. OfPrimary (roll-Primary z)) is
    (nests_to _ _ _ _ (ap spell_primary (rolls-Call f place args.0) ∙ call-is f place args.0) (ap (fold_primary expression_nestings) (rolls-Call f place args.0) ∙ at-call expression_nestings f place args.0)
    (nests_behind (Placed (kind.Fixed (function_word f)) place) _ (fold_arguments expression_nestings args.0 + 1) (quiet_function f) (nests_bracket (Anywhere (kind.Fixed w.OpenParen)) (Anywhere (kind.Fixed w.CloseParen)) (spell_arguments args.0) (fold_arguments expression_nestings args.0) (λ d. refl) closes_one args.1)))

-- an expression's tokens nest as deep as the expression
pub nests_expr : (e : Expr) → Nests (spell_expr e) (expr_nesting e)
unfolding expr_nesting
nests_expr = ind-Expr OfPrimary OfUnary OfArguments OfComparison OfConjunction OfEquality OfExclusive OfExpr OfProduct OfSum of_primary_layer of_unary_layer of_arguments_layer of_comparison_layer of_conjunction_layer of_equality_layer of_exclusive_layer of_expr_layer of_product_layer of_sum_layer
