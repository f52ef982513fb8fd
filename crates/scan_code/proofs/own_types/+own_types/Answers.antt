use Rattle.std.proofs.Common.{Option, Some, fold, take, ap, sym, ◌∙◌, refl}
use Rattle.std.proofs.lemmas.List.Sums.{fold_more}
use Rattle.std.proofs.lemmas.List.Folds.{fold-map}
use Rattle.st_tree.specs.declared.expression.Operation.{Operation}
use Rattle.st_tree.specs.declared.expression.EqualOperator.{EqualOperator}
use Rattle.st_tree.specs.declared.expression.CompareOperator.{CompareOperator}
use Rattle.st_tree.specs.declared.expression.AddOperator.{AddOperator}
use Rattle.st_tree.specs.declared.expression.MultiplyOperator.{MultiplyOperator}
use Rattle.st_tree.specs.declared.expression.Expr.{Expr, out-Expr}
use Rattle.st_tree.specs.declared.expression.Exclusive.{Exclusive, out-Exclusive}
use Rattle.st_tree.specs.declared.expression.Conjunction.{Conjunction, out-Conjunction}
use Rattle.st_tree.specs.declared.expression.Equality.{Equality, out-Equality}
use Rattle.st_tree.specs.declared.expression.Comparison.{Comparison, out-Comparison}
use Rattle.st_tree.specs.declared.expression.Sum.{Sum, out-Sum}
use Rattle.st_tree.specs.declared.expression.Product.{Product, out-Product}
use Rattle.st_tree.specs.declared.expression.Unary.{Unary}
use Rattle.st_tree.specs.declared.expression.Arguments.{out-Arguments}
use Rattle.st_tree.proofs.ExpressionEquations.{with_operand}
use Rattle.function_blocks.specs.declared.kinds.Kind.{Kind}
use Rattle.st_core.specs.Core as core
use Rattle.st_core.specs.Core.{BinaryOperator}
use Rattle.st_meaning.specs.Functions.{first_own}
use Rattle.st_meaning.specs.Expressions.{Elaborated, common, function_own, logic, add_operator, multiply_operator, more_equal, more_compare, more_add, more_multiply, elaborated}
use Rattle.code_size.specs.Inner.Ranks.{exclusive_in, conjunction_in, equality_in, comparison_in, sum_in, product_in, unary_in, primary_in, arguments_in}
use Rattle.code_size.proofs.Elaborations.{expr-out, exclusive-out, conjunction-out, equality-out, comparison-out, sum-out, product-out, plain-is, minus-is, not-is, number-is, truth-is, tag-is, field-is, element-is, bracketed-is, call-is, arguments-out}
use Rattle.code_size.proofs.Rows.{taken_all}
use Rattle.scan_code.proofs.OwnTypes.{alone, truths, own_more}
use Rattle.scan_code.proofs.own_types.+own_types.Goals as goal

pub type_of_expr-returns-then-is_empty : goal.type_of_expr-returns-then-is_empty
type_of_expr-returns-then-is_empty t c =
    let e = out-Expr c.args.e.now in
    c.type_of_exclusive.ensures ∙ sym (ap (λ (j : Elaborated). j.own) (expr-out c.args.layout.now c.args.e.now ∙ alone (λ a (x : Exclusive). logic core.Or a (exclusive_in c.args.layout.now x)) (exclusive_in c.args.layout.now e.first) e.more c.as_slice.result.now c.as_slice.ensures c.if-is_empty.ensures))

pub type_of_expr-returns-else-is_empty : goal.type_of_expr-returns-else-is_empty
type_of_expr-returns-else-is_empty t c =
    let e = out-Expr c.args.e.now in
    truths (λ a (x : Exclusive). logic core.Or a (exclusive_in c.args.layout.now x)) (λ a x. refl) (exclusive_in c.args.layout.now e.first) e.more c.as_slice.result.now c.as_slice.ensures c.if-is_empty.ensures ∙ sym (ap (λ (j : Elaborated). j.own) (expr-out c.args.layout.now c.args.e.now))

pub type_of_exclusive-returns-then-is_empty : goal.type_of_exclusive-returns-then-is_empty
type_of_exclusive-returns-then-is_empty t c =
    let e = out-Exclusive c.args.e.now in
    c.type_of_conjunction.ensures ∙ sym (ap (λ (j : Elaborated). j.own) (exclusive-out c.args.layout.now c.args.e.now ∙ alone (λ a (x : Conjunction). logic core.Xor a (conjunction_in c.args.layout.now x)) (conjunction_in c.args.layout.now e.first) e.more c.as_slice.result.now c.as_slice.ensures c.if-is_empty.ensures))

pub type_of_exclusive-returns-else-is_empty : goal.type_of_exclusive-returns-else-is_empty
type_of_exclusive-returns-else-is_empty t c =
    let e = out-Exclusive c.args.e.now in
    truths (λ a (x : Conjunction). logic core.Xor a (conjunction_in c.args.layout.now x)) (λ a x. refl) (conjunction_in c.args.layout.now e.first) e.more c.as_slice.result.now c.as_slice.ensures c.if-is_empty.ensures ∙ sym (ap (λ (j : Elaborated). j.own) (exclusive-out c.args.layout.now c.args.e.now))

pub type_of_conjunction-returns-then-is_empty : goal.type_of_conjunction-returns-then-is_empty
type_of_conjunction-returns-then-is_empty t c =
    let e = out-Conjunction c.args.e.now in
    c.type_of_equality.ensures ∙ sym (ap (λ (j : Elaborated). j.own) (conjunction-out c.args.layout.now c.args.e.now ∙ alone (λ a (x : Equality). logic core.And a (equality_in c.args.layout.now x)) (equality_in c.args.layout.now e.first) e.more c.as_slice.result.now c.as_slice.ensures c.if-is_empty.ensures))

pub type_of_conjunction-returns-else-is_empty : goal.type_of_conjunction-returns-else-is_empty
type_of_conjunction-returns-else-is_empty t c =
    let e = out-Conjunction c.args.e.now in
    truths (λ a (x : Equality). logic core.And a (equality_in c.args.layout.now x)) (λ a x. refl) (equality_in c.args.layout.now e.first) e.more c.as_slice.result.now c.as_slice.ensures c.if-is_empty.ensures ∙ sym (ap (λ (j : Elaborated). j.own) (conjunction-out c.args.layout.now c.args.e.now))

pub type_of_equality-returns-then-is_empty : goal.type_of_equality-returns-then-is_empty
type_of_equality-returns-then-is_empty t c =
    let e = out-Equality c.args.e.now in
    c.type_of_comparison.ensures ∙ sym (ap (λ (j : Elaborated). j.own) (equality-out c.args.layout.now c.args.e.now ∙ alone (λ a (x : Operation EqualOperator Comparison). more_equal a (with_operand (comparison_in c.args.layout.now) x)) (comparison_in c.args.layout.now e.first) e.more c.as_slice.result.now c.as_slice.ensures c.if-is_empty.ensures))

pub type_of_equality-returns-else-is_empty : goal.type_of_equality-returns-else-is_empty
type_of_equality-returns-else-is_empty t c =
    let e = out-Equality c.args.e.now in
    truths (λ a (x : Operation EqualOperator Comparison). more_equal a (with_operand (comparison_in c.args.layout.now) x)) (λ a x. refl) (comparison_in c.args.layout.now e.first) e.more c.as_slice.result.now c.as_slice.ensures c.if-is_empty.ensures ∙ sym (ap (λ (j : Elaborated). j.own) (equality-out c.args.layout.now c.args.e.now))

pub type_of_comparison-returns-then-is_empty : goal.type_of_comparison-returns-then-is_empty
type_of_comparison-returns-then-is_empty t c =
    let e = out-Comparison c.args.e.now in
    c.type_of_sum.ensures ∙ sym (ap (λ (j : Elaborated). j.own) (comparison-out c.args.layout.now c.args.e.now ∙ alone (λ a (x : Operation CompareOperator Sum). more_compare a (with_operand (sum_in c.args.layout.now) x)) (sum_in c.args.layout.now e.first) e.more c.as_slice.result.now c.as_slice.ensures c.if-is_empty.ensures))

pub type_of_comparison-returns-else-is_empty : goal.type_of_comparison-returns-else-is_empty
type_of_comparison-returns-else-is_empty t c =
    let e = out-Comparison c.args.e.now in
    truths (λ a (x : Operation CompareOperator Sum). more_compare a (with_operand (sum_in c.args.layout.now) x)) (λ a x. refl) (sum_in c.args.layout.now e.first) e.more c.as_slice.result.now c.as_slice.ensures c.if-is_empty.ensures ∙ sym (ap (λ (j : Elaborated). j.own) (comparison-out c.args.layout.now c.args.e.now))

pub type_of_sum-loop-x-init : goal.type_of_sum-loop-x-init
type_of_sum-loop-x-init t c = c.type_of_product-own.ensures

pub type_of_sum-loop-x-preserved : goal.type_of_sum-loop-x-preserved
type_of_sum-loop-x-preserved t c =
    own_more add_operator (product_in c.args.layout.now) (product_in c.args.layout.now (out-Sum c.args.e.now).first) c.as_slice-more.result.now c.loop-x.x-index c.x-item.result c.loop-x.own c.common-own.result c.type_of_product.result c.loop-x-test.true c.x-item.is c.loop-x.invariant c.type_of_product.ensures c.common-own.ensures

pub type_of_sum-returns : goal.type_of_sum-returns
type_of_sum-returns t c =
    let e = out-Sum c.args.e.now in
    c.loop-x.invariant ∙ (ap (λ l. (fold (λ a (x : Operation AddOperator Product). more_add a (with_operand (product_in c.args.layout.now) x)) (product_in c.args.layout.now e.first) l).own) (taken_all c.as_slice-more.result.now c.loop-x.x-index c.loop-x-test.false ∙ c.as_slice-more.ensures)
    ∙ sym (ap (λ (j : Elaborated). j.own) (sum-out c.args.layout.now c.args.e.now)))

pub type_of_product-loop-x-init : goal.type_of_product-loop-x-init
type_of_product-loop-x-init t c = c.type_of_unary-own.ensures

pub type_of_product-loop-x-preserved : goal.type_of_product-loop-x-preserved
type_of_product-loop-x-preserved t c =
    own_more multiply_operator (unary_in c.args.layout.now) (unary_in c.args.layout.now (out-Product c.args.e.now).first) c.as_slice-more.result.now c.loop-x.x-index c.x-item.result c.loop-x.own c.common-own.result c.type_of_unary.result c.loop-x-test.true c.x-item.is c.loop-x.invariant c.type_of_unary.ensures c.common-own.ensures

pub type_of_product-returns : goal.type_of_product-returns
type_of_product-returns t c =
    let e = out-Product c.args.e.now in
    c.loop-x.invariant ∙ (ap (λ l. (fold (λ a (x : Operation MultiplyOperator Unary). more_multiply a (with_operand (unary_in c.args.layout.now) x)) (unary_in c.args.layout.now e.first) l).own) (taken_all c.as_slice-more.result.now c.loop-x.x-index c.loop-x-test.false ∙ c.as_slice-more.ensures)
    ∙ sym (ap (λ (j : Elaborated). j.own) (product-out c.args.layout.now c.args.e.now)))

pub type_of_unary-returns-in-Plain : goal.type_of_unary-returns-in-Plain
type_of_unary-returns-in-Plain t c = c.type_of_primary.ensures ∙ sym (ap (λ x. (unary_in c.args.layout.now x).own) c.in-Plain.is ∙ ap (λ (j : Elaborated). j.own) (plain-is c.args.layout.now c.in-Plain.primary))

pub type_of_unary-returns-in-Minus : goal.type_of_unary-returns-in-Minus
type_of_unary-returns-in-Minus t c = c.type_of_primary-in-Minus.ensures ∙ sym (ap (λ x. (unary_in c.args.layout.now x).own) c.in-Minus.is ∙ ap (λ (j : Elaborated). j.own) (minus-is c.args.layout.now c.in-Minus.field-0 c.in-Minus.primary))

pub type_of_unary-returns-in-Not : goal.type_of_unary-returns-in-Not
type_of_unary-returns-in-Not t c = sym (ap (λ x. (unary_in c.args.layout.now x).own) c.in-Not.is ∙ ap (λ (j : Elaborated). j.own) (not-is c.args.layout.now _ _))

pub type_of_primary-returns-in-Number : goal.type_of_primary-returns-in-Number
type_of_primary-returns-in-Number t c = sym (ap (λ x. (primary_in c.args.layout.now x).own) c.in-Number.is ∙ ap (λ (j : Elaborated). j.own) (number-is c.args.layout.now _ _))

pub type_of_primary-returns-in-Truth : goal.type_of_primary-returns-in-Truth
type_of_primary-returns-in-Truth t c = sym (ap (λ x. (primary_in c.args.layout.now x).own) c.in-Truth.is ∙ ap (λ (j : Elaborated). j.own) (truth-is c.args.layout.now _ _))

pub type_of_primary-returns-in-Tag : goal.type_of_primary-returns-in-Tag
type_of_primary-returns-in-Tag t c = ap Some c.word_type_named.ensures ∙ sym (ap (λ x. (primary_in c.args.layout.now x).own) c.in-Tag.is ∙ ap (λ (j : Elaborated). j.own) (tag-is c.args.layout.now c.in-Tag.tag))

pub type_of_primary-returns-in-Field : goal.type_of_primary-returns-in-Field
type_of_primary-returns-in-Field t c = ap Some c.field_type_named.ensures ∙ sym (ap (λ x. (primary_in c.args.layout.now x).own) c.in-Field.is ∙ ap (λ (j : Elaborated). j.own) (field-is c.args.layout.now c.in-Field.block c.in-Field.field))

pub type_of_primary-returns-in-Element : goal.type_of_primary-returns-in-Element
type_of_primary-returns-in-Element t c = ap Some c.element_type_named.ensures ∙ sym (ap (λ x. (primary_in c.args.layout.now x).own) c.in-Element.is ∙ ap (λ (j : Elaborated). j.own) (element-is c.args.layout.now c.in-Element.array _))

pub type_of_primary-returns-in-Bracketed : goal.type_of_primary-returns-in-Bracketed
type_of_primary-returns-in-Bracketed t c = c.type_of_expr.ensures ∙ ap (λ x. (elaborated c.args.layout.now x).own) c.get.ensures ∙ sym (ap (λ x. (primary_in c.args.layout.now x).own) c.in-Bracketed.is ∙ ap (λ (j : Elaborated). j.own) (bracketed-is c.args.layout.now _ c.in-Bracketed.inside))

pub type_of_primary-returns-in-Call : goal.type_of_primary-returns-in-Call
type_of_primary-returns-in-Call t c = c.type_of_call.ensures ∙ ap (λ x. function_own c.in-Call.function (arguments_in c.args.layout.now x)) c.get-in-Call.ensures ∙ sym (ap (λ x. (primary_in c.args.layout.now x).own) c.in-Call.is ∙ ap (λ (j : Elaborated). j.own) (call-is c.args.layout.now c.in-Call.function _ c.in-Call.arguments))

pub type_of_call-loop-x-init : goal.type_of_call-loop-x-init
type_of_call-loop-x-init t c = c.first_own-own.ensures ∙ ap (first_own c.args.function) c.type_of_expr.ensures

pub type_of_call-loop-x-preserved : goal.type_of_call-loop-x-preserved
type_of_call-loop-x-preserved t c =
    let so = fold (λ (own : Option Kind) (x : Expr). common own (elaborated c.args.layout.now x).own) (first_own c.args.function (elaborated c.args.layout.now (out-Arguments c.args.e.now).first).own) (take c.loop-x.x-index c.as_slice-more.result.now) in
    c.common-own.ensures ∙ (ap (λ k. common k c.type_of_expr-in-loop-x.result) c.loop-x.invariant ∙ (ap (common so) c.type_of_expr-in-loop-x.ensures
    ∙ (ap (λ (y : Expr). common so (elaborated c.args.layout.now y).own) c.x-item.is ∙ sym (fold_more (λ (own : Option Kind) (x : Expr). common own (elaborated c.args.layout.now x).own) (first_own c.args.function (elaborated c.args.layout.now (out-Arguments c.args.e.now).first).own) c.as_slice-more.result.now c.loop-x.x-index c.x-item.result c.loop-x-test.true))))

pub type_of_call-returns : goal.type_of_call-returns
type_of_call-returns t c =
    c.loop-x.invariant ∙ (ap (λ l. fold (λ (own : Option Kind) (x : Expr). common own (elaborated c.args.layout.now x).own) (first_own c.args.function (elaborated c.args.layout.now (out-Arguments c.args.e.now).first).own) l) (taken_all c.as_slice-more.result.now c.loop-x.x-index c.loop-x-test.false ∙ c.as_slice-more.ensures)
    ∙ sym (ap (function_own c.args.function) (arguments-out c.args.layout.now c.args.e.now) ∙ fold-map (λ (own : Option Kind) (b : Elaborated). common own b.own) (elaborated c.args.layout.now) (first_own c.args.function (elaborated c.args.layout.now (out-Arguments c.args.e.now).first).own) (out-Arguments c.args.e.now).more))
