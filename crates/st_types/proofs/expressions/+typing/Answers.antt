use Rattle.std.proofs.Common.{◌≡◌, arith, List, ◌∷◌, map, refl, ap, sym, ◌∙◌}
use Rattle.function_blocks.specs.declared.kinds.Kind.TheVariants as kind
use Rattle.st_types.specs.declared.finding.Checked.{Checked}
use Rattle.st_types.specs.declared.finding.CheckedPrimary.{CheckedPrimary}
use Rattle.st_types.specs.declared.finding.CheckedPrimary.TheVariants as kept
use Rattle.st_tree.specs.declared.expression.Expr.{out-Expr}
use Rattle.st_tree.specs.declared.expression.Exclusive.{out-Exclusive}
use Rattle.st_tree.specs.declared.expression.Conjunction.{out-Conjunction}
use Rattle.st_tree.specs.declared.expression.Equality.{out-Equality}
use Rattle.st_tree.specs.declared.expression.Comparison.{out-Comparison}
use Rattle.st_tree.specs.declared.expression.Sum.{out-Sum}
use Rattle.st_tree.specs.declared.expression.Product.{out-Product}
use Rattle.st_tree.specs.declared.expression.Arguments.{out-Arguments}
use Rattle.st_tree.specs.declared.expression.Primary.{Primary}
use Rattle.st_tree.specs.declared.expression.Unary.{Unary}
use Rattle.st_tree.specs.ExpressionFolds.{ExpressionSteps, fold_expr, fold_exclusive, fold_conjunction, fold_equality, fold_comparison, fold_sum, fold_product, fold_unary, fold_primary, fold_arguments}
use Rattle.st_types.specs.Inner.Summaries.{finding_of, checked_of, primary_of, booleans, integers, alike, compared, unsigned, negated, asked, unless, element_value}
use Rattle.st_tree.proofs.ExpressionEquations.{at-number, at-truth, at-tag, at-field, at-element, at-bracketed, at-call, at-plain, at-minus, at-not, out-of_expr, out-of_exclusive, out-of_conjunction, out-of_equality, out-of_comparison, out-of_sum, out-of_product, out-of_arguments}
use Rattle.st_types.proofs.Summing.{sum-booleans, sum-integers, sum-alike, sum-compared, sum-asked, sum-unsigned, sum-negated}
use Rattle.st_types.proofs.Chains.{chain_step, chain_done, operands-map}
use Rattle.st_types.proofs.FunctionCalls.{call_one, call_two, call_three, call_many, sum-element, fault_step, list_none, list_one, list_two}
use Rattle.st_types.proofs.expressions.+typing.Goals as goal
use Rattle.st_types.specs.Inner.Firsts.{soonest}
use Rattle.st_tree.specs.Typing.Expressions as expression
use Rattle.st_tree.specs.Typing.Names as named
use Rattle.st_tree.specs.Typing.Operands as operand
use Rattle.st_tree.specs.Typing.Operands.{Typing, chain, both_bool, both_integer, compared_alike, compared_integers}
use Rattle.st_tree.specs.Typing.Expressions.{PrimaryTyping, expression_types}
use Rattle.st_tree.specs.Typing.Functions.{called}
use Rattle.st_tree.specs.Tags.{tag_named}

pub type_expression-loop-right-preserved : goal.type_expression-loop-right-preserved
type_expression-loop-right-preserved t c =
    (λ j. record { first = c.loop-right.left.first; finding = c.booleans.ensures j })
    ∙ chain_step both_bool booleans sum-booleans (fold_exclusive (expression_types c.args.tags.now) (out-Expr c.args.e.now).first) (fold_exclusive (expression_types c.args.tags.now)) c.as_slice-right-items.result.now c.loop-right.right-index c.right-item.result c.loop-right.left c.type_exclusive-right.result (omega arith) c.right-item.is c.loop-right.invariant c.type_exclusive-right.ensures

pub type_expression-returns : goal.type_expression-returns
type_expression-returns t c =
    chain_done both_bool (fold_exclusive (expression_types c.args.tags.now) (out-Expr c.args.e.now).first) (fold_exclusive (expression_types c.args.tags.now)) c.as_slice-right-items.result.now (out-Expr c.args.e.now).more c.loop-right.right-index c.loop-right.left _ (omega arith) c.as_slice-right-items.ensures c.loop-right.invariant (out-of_expr (expression_types c.args.tags.now) c.args.e.now)

pub type_exclusive-loop-right-preserved : goal.type_exclusive-loop-right-preserved
type_exclusive-loop-right-preserved t c =
    (λ j. record { first = c.loop-right.left.first; finding = c.booleans.ensures j })
    ∙ chain_step both_bool booleans sum-booleans (fold_conjunction (expression_types c.args.tags.now) (out-Exclusive c.args.e.now).first) (fold_conjunction (expression_types c.args.tags.now)) c.as_slice-right-items.result.now c.loop-right.right-index c.right-item.result c.loop-right.left c.type_conjunction-right.result (omega arith) c.right-item.is c.loop-right.invariant c.type_conjunction-right.ensures

pub type_exclusive-returns : goal.type_exclusive-returns
type_exclusive-returns t c =
    chain_done both_bool (fold_conjunction (expression_types c.args.tags.now) (out-Exclusive c.args.e.now).first) (fold_conjunction (expression_types c.args.tags.now)) c.as_slice-right-items.result.now (out-Exclusive c.args.e.now).more c.loop-right.right-index c.loop-right.left _ (omega arith) c.as_slice-right-items.ensures c.loop-right.invariant (out-of_exclusive (expression_types c.args.tags.now) c.args.e.now)

pub type_conjunction-loop-right-preserved : goal.type_conjunction-loop-right-preserved
type_conjunction-loop-right-preserved t c =
    (λ j. record { first = c.loop-right.left.first; finding = c.booleans.ensures j })
    ∙ chain_step both_bool booleans sum-booleans (fold_equality (expression_types c.args.tags.now) (out-Conjunction c.args.e.now).first) (fold_equality (expression_types c.args.tags.now)) c.as_slice-right-items.result.now c.loop-right.right-index c.right-item.result c.loop-right.left c.type_equality-right.result (omega arith) c.right-item.is c.loop-right.invariant c.type_equality-right.ensures

pub type_conjunction-returns : goal.type_conjunction-returns
type_conjunction-returns t c =
    chain_done both_bool (fold_equality (expression_types c.args.tags.now) (out-Conjunction c.args.e.now).first) (fold_equality (expression_types c.args.tags.now)) c.as_slice-right-items.result.now (out-Conjunction c.args.e.now).more c.loop-right.right-index c.loop-right.left _ (omega arith) c.as_slice-right-items.ensures c.loop-right.invariant (out-of_conjunction (expression_types c.args.tags.now) c.args.e.now)

pub type_equality-loop-right-preserved : goal.type_equality-loop-right-preserved
type_equality-loop-right-preserved t c =
    (λ j. record { first = c.loop-right.left.first; finding = (c.compared.ensures ∙ ap compared c.alike.ensures) j })
    ∙ chain_step compared_alike (λ a b. compared (alike a b)) (λ a b. sum-compared (operand.alike a b) ∙ ap compared (sum-alike a b)) (fold_comparison (expression_types c.args.tags.now) (out-Equality c.args.e.now).first) (λ right. fold_comparison (expression_types c.args.tags.now) right.operand) c.as_slice-right-items.result.now c.loop-right.right-index c.right-item.result c.loop-right.left c.type_comparison-right.result (omega arith) c.right-item.is c.loop-right.invariant c.type_comparison-right.ensures

pub type_equality-returns : goal.type_equality-returns
type_equality-returns t c =
    chain_done compared_alike (fold_comparison (expression_types c.args.tags.now) (out-Equality c.args.e.now).first) (λ right. fold_comparison (expression_types c.args.tags.now) right.operand) c.as_slice-right-items.result.now (out-Equality c.args.e.now).more c.loop-right.right-index c.loop-right.left _ (omega arith) c.as_slice-right-items.ensures c.loop-right.invariant (out-of_equality (expression_types c.args.tags.now) c.args.e.now ∙ ap (chain compared_alike (fold_comparison (expression_types c.args.tags.now) (out-Equality c.args.e.now).first)) (operands-map (fold_comparison (expression_types c.args.tags.now)) (out-Equality c.args.e.now).more))

pub type_comparison-loop-right-preserved : goal.type_comparison-loop-right-preserved
type_comparison-loop-right-preserved t c =
    (λ j. record { first = c.loop-right.left.first; finding = (c.compared.ensures ∙ ap compared c.integers.ensures) j })
    ∙ chain_step compared_integers (λ a b. compared (integers a b)) (λ a b. sum-compared (both_integer a b) ∙ ap compared (sum-integers a b)) (fold_sum (expression_types c.args.tags.now) (out-Comparison c.args.e.now).first) (λ right. fold_sum (expression_types c.args.tags.now) right.operand) c.as_slice-right-items.result.now c.loop-right.right-index c.right-item.result c.loop-right.left c.type_sum-right.result (omega arith) c.right-item.is c.loop-right.invariant c.type_sum-right.ensures

pub type_comparison-returns : goal.type_comparison-returns
type_comparison-returns t c =
    chain_done compared_integers (fold_sum (expression_types c.args.tags.now) (out-Comparison c.args.e.now).first) (λ right. fold_sum (expression_types c.args.tags.now) right.operand) c.as_slice-right-items.result.now (out-Comparison c.args.e.now).more c.loop-right.right-index c.loop-right.left _ (omega arith) c.as_slice-right-items.ensures c.loop-right.invariant (out-of_comparison (expression_types c.args.tags.now) c.args.e.now ∙ ap (chain compared_integers (fold_sum (expression_types c.args.tags.now) (out-Comparison c.args.e.now).first)) (operands-map (fold_sum (expression_types c.args.tags.now)) (out-Comparison c.args.e.now).more))

pub type_sum-loop-right-preserved : goal.type_sum-loop-right-preserved
type_sum-loop-right-preserved t c =
    (λ j. record { first = c.loop-right.left.first; finding = c.integers.ensures j })
    ∙ chain_step both_integer integers sum-integers (fold_product (expression_types c.args.tags.now) (out-Sum c.args.e.now).first) (λ right. fold_product (expression_types c.args.tags.now) right.operand) c.as_slice-right-items.result.now c.loop-right.right-index c.right-item.result c.loop-right.left c.type_product-right.result (omega arith) c.right-item.is c.loop-right.invariant c.type_product-right.ensures

pub type_sum-returns : goal.type_sum-returns
type_sum-returns t c =
    chain_done both_integer (fold_product (expression_types c.args.tags.now) (out-Sum c.args.e.now).first) (λ right. fold_product (expression_types c.args.tags.now) right.operand) c.as_slice-right-items.result.now (out-Sum c.args.e.now).more c.loop-right.right-index c.loop-right.left _ (omega arith) c.as_slice-right-items.ensures c.loop-right.invariant (out-of_sum (expression_types c.args.tags.now) c.args.e.now ∙ ap (chain both_integer (fold_product (expression_types c.args.tags.now) (out-Sum c.args.e.now).first)) (operands-map (fold_product (expression_types c.args.tags.now)) (out-Sum c.args.e.now).more))

pub type_product-loop-right-preserved : goal.type_product-loop-right-preserved
type_product-loop-right-preserved t c =
    (λ j. record { first = c.loop-right.left.first; finding = c.integers.ensures j })
    ∙ chain_step both_integer integers sum-integers (fold_unary (expression_types c.args.tags.now) (out-Product c.args.e.now).first) (λ right. fold_unary (expression_types c.args.tags.now) right.operand) c.as_slice-right-items.result.now c.loop-right.right-index c.right-item.result c.loop-right.left c.type_unary-right.result (omega arith) c.right-item.is c.loop-right.invariant c.type_unary-right.ensures

pub type_product-returns : goal.type_product-returns
type_product-returns t c =
    chain_done both_integer (fold_unary (expression_types c.args.tags.now) (out-Product c.args.e.now).first) (λ right. fold_unary (expression_types c.args.tags.now) right.operand) c.as_slice-right-items.result.now (out-Product c.args.e.now).more c.loop-right.right-index c.loop-right.left _ (omega arith) c.as_slice-right-items.ensures c.loop-right.invariant (out-of_product (expression_types c.args.tags.now) c.args.e.now ∙ ap (chain both_integer (fold_unary (expression_types c.args.tags.now) (out-Product c.args.e.now).first)) (operands-map (fold_unary (expression_types c.args.tags.now)) (out-Product c.args.e.now).more))

by_unary : (s : ExpressionSteps PrimaryTyping Typing (List Typing)) (e e′ : Unary) (x : Typing) (r : Checked) → e ≡ e′ → fold_unary s e′ ≡ x → r ≡ checked_of x → r ≡ checked_of (fold_unary s e)
by_unary s e e′ x r is at so = so ∙ sym (ap (λ y. checked_of (fold_unary s y)) is ∙ ap checked_of at)

by_part : (s : ExpressionSteps PrimaryTyping Typing (List Typing)) (e e′ : Primary) (x : PrimaryTyping) (r : CheckedPrimary) → e ≡ e′ → fold_primary s e′ ≡ x → r ≡ primary_of x → r ≡ primary_of (fold_primary s e)
by_part s e e′ x r is at so = so ∙ sym (ap (λ y. primary_of (fold_primary s y)) is ∙ ap primary_of at)

pub type_primary-returns-in-Number : goal.type_primary-returns-in-Number
type_primary-returns-in-Number t c = by_part (expression_types c.args.tags.now) c.args.e.now _ _ _ c.in-Number.is (at-number (expression_types c.args.tags.now) c.in-Number.value c.in-Number.place) refl

pub type_primary-returns-in-Truth : goal.type_primary-returns-in-Truth
type_primary-returns-in-Truth t c = by_part (expression_types c.args.tags.now) c.args.e.now _ _ _ c.in-Truth.is (at-truth (expression_types c.args.tags.now) c.in-Truth.field-0 c.in-Truth.place) refl

pub type_primary-returns-in-Tag : goal.type_primary-returns-in-Tag
type_primary-returns-in-Tag t c = by_part (expression_types c.args.tags.now) c.args.e.now _ _ _ c.in-Tag.is (at-tag (expression_types c.args.tags.now) c.in-Tag.name) (ap (λ f. kept.Other (record { first = c.in-Tag.name.place; finding = f })) (c.tag_value.ensures ∙ ap (λ tag. finding_of (named.tag_value c.in-Tag.name tag)) c.named.ensures))

pub type_primary-returns-in-Field : goal.type_primary-returns-in-Field
type_primary-returns-in-Field t c = by_part (expression_types c.args.tags.now) c.args.e.now _ _ _ c.in-Field.is (at-field (expression_types c.args.tags.now) c.in-Field.name c.in-Field.field) (ap (λ f. kept.Other (record { first = c.in-Field.name.place; finding = f })) (c.field_value.ensures ∙ ap (λ tag. finding_of (named.field_value c.in-Field.name c.in-Field.field tag)) c.named-in-Field.ensures))

pub type_primary-returns-in-Element : goal.type_primary-returns-in-Element
type_primary-returns-in-Element t c = by_part (expression_types c.args.tags.now) c.args.e.now _ _ _ c.in-Element.is (at-element (expression_types c.args.tags.now) c.in-Element.name c.in-Element.index) (ap (λ f. kept.Other (record { first = c.in-Element.name.place; finding = f })) (c.element_value.ensures ∙ ((λ i. element_value c.in-Element.name ((c.type_expression.ensures ∙ ap (λ e. checked_of (fold_expr (expression_types c.args.tags.now) e)) c.get.ensures) i) (c.named-in-Element.ensures i)) ∙ sym (sum-element c.in-Element.name (fold_expr (expression_types c.args.tags.now) c.in-Element.index) (tag_named c.args.tags.now c.in-Element.name.name)))))

pub type_primary-returns-in-Bracketed : goal.type_primary-returns-in-Bracketed
type_primary-returns-in-Bracketed t c = by_part (expression_types c.args.tags.now) c.args.e.now _ _ _ c.in-Bracketed.is (at-bracketed (expression_types c.args.tags.now) c.in-Bracketed.place c.in-Bracketed.inside) (ap (λ f. kept.Other (record { first = c.in-Bracketed.place; finding = f })) (ap (λ (k : Checked). k.finding) (c.type_expression-in-Bracketed.ensures ∙ ap (λ e. checked_of (fold_expr (expression_types c.args.tags.now) e)) c.get-in-Bracketed.ensures)))

pub type_primary-returns-in-Call : goal.type_primary-returns-in-Call
type_primary-returns-in-Call t c = by_part (expression_types c.args.tags.now) c.args.e.now _ _ _ c.in-Call.is (at-call (expression_types c.args.tags.now) c.in-Call.function c.in-Call.place c.in-Call.arguments) (ap (λ f. kept.Other (record { first = c.in-Call.place; finding = f })) (c.type_call.ensures ∙ ap (λ a. finding_of (called c.in-Call.function c.in-Call.place (fold_arguments (expression_types c.args.tags.now) a))) c.get-in-Call.ensures))

pub type_unary-returns-in-Plain : goal.type_unary-returns-in-Plain
type_unary-returns-in-Plain t c = by_unary (expression_types c.args.tags.now) c.args.e.now _ _ _ c.in-Plain.is (at-plain (expression_types c.args.tags.now) c.in-Plain.primary) (c.unsigned.ensures ∙ (ap unsigned c.type_primary.ensures ∙ sym (sum-unsigned (fold_primary (expression_types c.args.tags.now) c.in-Plain.primary))))

pub type_unary-returns-in-Minus : goal.type_unary-returns-in-Minus
type_unary-returns-in-Minus t c = by_unary (expression_types c.args.tags.now) c.args.e.now _ _ _ c.in-Minus.is (at-minus (expression_types c.args.tags.now) c.in-Minus.place c.in-Minus.primary) (c.negated.ensures ∙ (ap (negated c.in-Minus.place) c.type_primary-in-Minus.ensures ∙ sym (sum-negated c.in-Minus.place (fold_primary (expression_types c.args.tags.now) c.in-Minus.primary))))

pub type_unary-returns-in-Not : goal.type_unary-returns-in-Not
type_unary-returns-in-Not t c = by_unary (expression_types c.args.tags.now) c.args.e.now _ _ _ c.in-Not.is (at-not (expression_types c.args.tags.now) c.in-Not.place c.in-Not.primary) (ap (λ f. record { first = c.in-Not.place; finding = f }) (c.asked.ensures ∙ (ap (asked kind.Bool) (c.unsigned-in-Not.ensures ∙ (ap unsigned c.type_primary-in-Not.ensures ∙ sym (sum-unsigned (fold_primary (expression_types c.args.tags.now) c.in-Not.primary)))) ∙ sym (sum-asked kind.Bool (expression.unsigned (fold_primary (expression_types c.args.tags.now) c.in-Not.primary))))))

pub type_call-returns-in-empty : goal.type_call-returns-in-empty
type_call-returns-in-empty t c = c.of_one.ensures ∙ call_one c.args.function c.args.place _ (fold_expr (expression_types c.args.tags.now) (out-Arguments c.args.e.now).first) (fold_expr (expression_types c.args.tags.now)) c.as_slice.result.now c.type_expression-first.result (out-of_arguments (expression_types c.args.tags.now) c.args.e.now ∙ ap (λ ys. fold_expr (expression_types c.args.tags.now) (out-Arguments c.args.e.now).first ∷ map (fold_expr (expression_types c.args.tags.now)) ys) (sym c.as_slice.ensures)) (list_none c.as_slice.result.now c.in-empty.len_below) c.type_expression-first.ensures

pub type_call-returns-in-len1 : goal.type_call-returns-in-len1
type_call-returns-in-len1 t c = c.of_two.ensures ∙ call_two c.args.function c.args.place _ (fold_expr (expression_types c.args.tags.now) (out-Arguments c.args.e.now).first) (fold_expr (expression_types c.args.tags.now)) c.as_slice.result.now c.second-item.result c.type_expression-first.result c.type_expression.result (out-of_arguments (expression_types c.args.tags.now) c.args.e.now ∙ ap (λ ys. fold_expr (expression_types c.args.tags.now) (out-Arguments c.args.e.now).first ∷ map (fold_expr (expression_types c.args.tags.now)) ys) (sym c.as_slice.ensures)) (list_one c.as_slice.result.now c.second-item.result (omega arith) c.second-item.is) c.type_expression-first.ensures c.type_expression.ensures

pub type_call-returns-in-len2 : goal.type_call-returns-in-len2
type_call-returns-in-len2 t c = c.of_three.ensures ∙ call_three c.args.function c.args.place _ (fold_expr (expression_types c.args.tags.now) (out-Arguments c.args.e.now).first) (fold_expr (expression_types c.args.tags.now)) c.as_slice.result.now c.second-item-then-this-lt3.result c.third-item.result c.type_expression-first.result c.type_expression-second.result c.type_expression-in-len2.result (out-of_arguments (expression_types c.args.tags.now) c.args.e.now ∙ ap (λ ys. fold_expr (expression_types c.args.tags.now) (out-Arguments c.args.e.now).first ∷ map (fold_expr (expression_types c.args.tags.now)) ys) (sym c.as_slice.ensures)) (list_two c.as_slice.result.now c.second-item-then-this-lt3.result c.third-item.result (omega arith) c.second-item-then-this-lt3.is c.third-item.is) c.type_expression-first.ensures c.type_expression-second.ensures c.type_expression-in-len2.ensures

pub type_call-returns-after-loop-argument : goal.type_call-returns-after-loop-argument
type_call-returns-after-loop-argument t c = c.unless.ensures ∙ (ap (unless c.loop-argument.fault) c.wrong_count.ensures ∙ call_many c.args.function c.args.place _ (fold_expr (expression_types c.args.tags.now) (out-Arguments c.args.e.now).first) (fold_expr (expression_types c.args.tags.now)) c.as_slice.result.now c.loop-argument.argument-index c.loop-argument.fault (out-of_arguments (expression_types c.args.tags.now) c.args.e.now ∙ ap (λ ys. fold_expr (expression_types c.args.tags.now) (out-Arguments c.args.e.now).first ∷ map (fold_expr (expression_types c.args.tags.now)) ys) (sym c.as_slice.ensures)) c.in_default.len_at_least c.loop-argument-test.false c.loop-argument.invariant)

pub type_call-loop-argument-preserved : goal.type_call-loop-argument-preserved
type_call-loop-argument-preserved t c = c.soonest-fault.ensures ∙ (ap (soonest c.loop-argument.fault) c.fault.ensures ∙ fault_step (fold_expr (expression_types c.args.tags.now)) (fold_expr (expression_types c.args.tags.now) (out-Arguments c.args.e.now).first) c.as_slice.result.now c.loop-argument.argument-index c.argument-item.result c.loop-argument.fault c.type_expression-in-loop-argument.result c.loop-argument-test.true c.argument-item.is c.loop-argument.invariant c.type_expression-in-loop-argument.ensures)
