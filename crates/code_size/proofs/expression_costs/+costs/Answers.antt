use Rattle.std.proofs.Common.{List, map, ◌+◌, pos, fold, refl, ap, sym, ◌∙◌}
use Rattle.function_blocks.specs.Values.{number}
use Rattle.st_tree.specs.declared.expression.Operation.{Operation}
use Rattle.st_tree.specs.declared.expression.EqualOperator.{EqualOperator}
use Rattle.st_tree.specs.declared.expression.CompareOperator.{CompareOperator}
use Rattle.st_tree.specs.declared.expression.AddOperator.{AddOperator}
use Rattle.st_tree.specs.declared.expression.MultiplyOperator.{MultiplyOperator}
use Rattle.st_tree.specs.declared.expression.Expr.{Expr, out-Expr}
use Rattle.st_tree.specs.declared.expression.Exclusive.{Exclusive, out-Exclusive}
use Rattle.st_tree.specs.declared.expression.Conjunction.{Conjunction, out-Conjunction}
use Rattle.st_tree.specs.declared.expression.Equality.{Equality, out-Equality}
use Rattle.st_tree.specs.declared.expression.Comparison.{Comparison, out-Comparison}
use Rattle.st_tree.specs.declared.expression.Sum.{Sum, out-Sum}
use Rattle.st_tree.specs.declared.expression.Product.{Product, out-Product}
use Rattle.st_tree.specs.declared.expression.Unary.{Unary}
use Rattle.st_tree.specs.declared.expression.Arguments.{out-Arguments}
use Rattle.st_tree.proofs.ExpressionEquations.{with_operand}
use Rattle.function_blocks.specs.declared.kinds.Kind.TheVariants as k
use Rattle.st_core.specs.Core as core
use Rattle.st_core.specs.Costs.{term_cost}
use Rattle.st_meaning.specs.Types.{type_of, word_type, element_type, low_bound, high_bound, block_of, field_place, field_type}
use Rattle.st_meaning.specs.Functions.{operator_of, combined, first_asked}
use Rattle.st_meaning.specs.Expressions.{Elaborated, settled, common, settled_term, argument_asked, function_term, logic, equal_operator, compare_operator, add_operator, multiply_operator, more_equal, more_compare, more_add, more_multiply, elaborated}
use Rattle.code_size.specs.Limits.{limited}
use Rattle.code_size.specs.Inner.Ranks.{exclusive_in, conjunction_in, equality_in, comparison_in, sum_in, product_in, unary_in, primary_in, arguments_in}
use Rattle.code_size.proofs.Elaborations.{expr-out, exclusive-out, conjunction-out, equality-out, comparison-out, sum-out, product-out, plain-is, minus-is, not-is, number-is, truth-is, tag-is, field-is, element-is, bracketed-is, call-is, arguments-out}
use Rattle.code_size.proofs.Rows.{taken_all, cost_more, unary_cost, element_cost, literal_cost, field_cost}
use Rattle.code_size.proofs.Countings.{counts_from, counts_more, counts_none, map_twice}
use Rattle.code_size.proofs.FunctionCosts.{argument_cost, cost_law, no_cost, combined_cost, other_cost}
use Rattle.code_size.proofs.expression_costs.+costs.Goals as goal

pub cost_of_expr-loop-x-init : goal.cost_of_expr-loop-x-init
cost_of_expr-loop-x-init t c = c.cost_of_exclusive-cost.ensures

pub cost_of_expr-loop-x-preserved : goal.cost_of_expr-loop-x-preserved
cost_of_expr-loop-x-preserved t c = λ ts.
    cost_more (λ a (x : Exclusive). logic core.Or a (exclusive_in ts x)) (exclusive_in ts) (λ a x kind. record { left = k.Bool; right = k.Bool; operator = core.Or; is = refl }) (exclusive_in ts (out-Expr c.args.e.now).first) c.as_slice-more.result.now c.loop-x.x-index c.x-item.result
    c.loop-x.cost c.cost_of_exclusive.result c.plus.result c.plus-cost.result c.loop-x-test.true c.x-item.is (c.loop-x.invariant ts) (c.cost_of_exclusive.ensures ts) c.plus.ensures c.plus-cost.ensures

pub cost_of_expr-returns : goal.cost_of_expr-returns
cost_of_expr-returns t c = λ ts kind.
    c.loop-x.invariant ts kind ∙ (ap (λ l. limited (term_cost ((fold (λ a (x : Exclusive). logic core.Or a (exclusive_in ts x)) (exclusive_in ts (out-Expr c.args.e.now).first) l).asked kind))) (taken_all c.as_slice-more.result.now c.loop-x.x-index c.loop-x-test.false ∙ c.as_slice-more.ensures)
    ∙ sym (ap (λ (j : Elaborated). limited (term_cost (j.asked kind))) (expr-out ts c.args.e.now)))

pub cost_of_exclusive-loop-x-init : goal.cost_of_exclusive-loop-x-init
cost_of_exclusive-loop-x-init t c = c.cost_of_conjunction-cost.ensures

pub cost_of_exclusive-loop-x-preserved : goal.cost_of_exclusive-loop-x-preserved
cost_of_exclusive-loop-x-preserved t c = λ ts.
    cost_more (λ a (x : Conjunction). logic core.Xor a (conjunction_in ts x)) (conjunction_in ts) (λ a x kind. record { left = k.Bool; right = k.Bool; operator = core.Xor; is = refl }) (conjunction_in ts (out-Exclusive c.args.e.now).first) c.as_slice-more.result.now c.loop-x.x-index c.x-item.result
    c.loop-x.cost c.cost_of_conjunction.result c.plus.result c.plus-cost.result c.loop-x-test.true c.x-item.is (c.loop-x.invariant ts) (c.cost_of_conjunction.ensures ts) c.plus.ensures c.plus-cost.ensures

pub cost_of_exclusive-returns : goal.cost_of_exclusive-returns
cost_of_exclusive-returns t c = λ ts kind.
    c.loop-x.invariant ts kind ∙ (ap (λ l. limited (term_cost ((fold (λ a (x : Conjunction). logic core.Xor a (conjunction_in ts x)) (conjunction_in ts (out-Exclusive c.args.e.now).first) l).asked kind))) (taken_all c.as_slice-more.result.now c.loop-x.x-index c.loop-x-test.false ∙ c.as_slice-more.ensures)
    ∙ sym (ap (λ (j : Elaborated). limited (term_cost (j.asked kind))) (exclusive-out ts c.args.e.now)))

pub cost_of_conjunction-loop-x-init : goal.cost_of_conjunction-loop-x-init
cost_of_conjunction-loop-x-init t c = c.cost_of_equality-cost.ensures

pub cost_of_conjunction-loop-x-preserved : goal.cost_of_conjunction-loop-x-preserved
cost_of_conjunction-loop-x-preserved t c = λ ts.
    cost_more (λ a (x : Equality). logic core.And a (equality_in ts x)) (equality_in ts) (λ a x kind. record { left = k.Bool; right = k.Bool; operator = core.And; is = refl }) (equality_in ts (out-Conjunction c.args.e.now).first) c.as_slice-more.result.now c.loop-x.x-index c.x-item.result
    c.loop-x.cost c.cost_of_equality.result c.plus.result c.plus-cost.result c.loop-x-test.true c.x-item.is (c.loop-x.invariant ts) (c.cost_of_equality.ensures ts) c.plus.ensures c.plus-cost.ensures

pub cost_of_conjunction-returns : goal.cost_of_conjunction-returns
cost_of_conjunction-returns t c = λ ts kind.
    c.loop-x.invariant ts kind ∙ (ap (λ l. limited (term_cost ((fold (λ a (x : Equality). logic core.And a (equality_in ts x)) (equality_in ts (out-Conjunction c.args.e.now).first) l).asked kind))) (taken_all c.as_slice-more.result.now c.loop-x.x-index c.loop-x-test.false ∙ c.as_slice-more.ensures)
    ∙ sym (ap (λ (j : Elaborated). limited (term_cost (j.asked kind))) (conjunction-out ts c.args.e.now)))

pub cost_of_equality-loop-x-init : goal.cost_of_equality-loop-x-init
cost_of_equality-loop-x-init t c = c.cost_of_comparison-cost.ensures

pub cost_of_equality-loop-x-preserved : goal.cost_of_equality-loop-x-preserved
cost_of_equality-loop-x-preserved t c = λ ts.
    cost_more (λ a (x : Operation EqualOperator Comparison). more_equal a (with_operand (comparison_in ts) x)) (λ x. comparison_in ts x.operand) (λ a x kind. record { left = settled (common a.own (comparison_in ts x.operand).own); right = settled (common a.own (comparison_in ts x.operand).own); operator = equal_operator x.operator; is = refl }) (comparison_in ts (out-Equality c.args.e.now).first) c.as_slice-more.result.now c.loop-x.x-index c.x-item.result
    c.loop-x.cost c.cost_of_comparison.result c.plus.result c.plus-cost.result c.loop-x-test.true c.x-item.is (c.loop-x.invariant ts) (c.cost_of_comparison.ensures ts) c.plus.ensures c.plus-cost.ensures

pub cost_of_equality-returns : goal.cost_of_equality-returns
cost_of_equality-returns t c = λ ts kind.
    c.loop-x.invariant ts kind ∙ (ap (λ l. limited (term_cost ((fold (λ a (x : Operation EqualOperator Comparison). more_equal a (with_operand (comparison_in ts) x)) (comparison_in ts (out-Equality c.args.e.now).first) l).asked kind))) (taken_all c.as_slice-more.result.now c.loop-x.x-index c.loop-x-test.false ∙ c.as_slice-more.ensures)
    ∙ sym (ap (λ (j : Elaborated). limited (term_cost (j.asked kind))) (equality-out ts c.args.e.now)))

pub cost_of_comparison-loop-x-init : goal.cost_of_comparison-loop-x-init
cost_of_comparison-loop-x-init t c = c.cost_of_sum-cost.ensures

pub cost_of_comparison-loop-x-preserved : goal.cost_of_comparison-loop-x-preserved
cost_of_comparison-loop-x-preserved t c = λ ts.
    cost_more (λ a (x : Operation CompareOperator Sum). more_compare a (with_operand (sum_in ts) x)) (λ x. sum_in ts x.operand) (λ a x kind. record { left = settled (common a.own (sum_in ts x.operand).own); right = settled (common a.own (sum_in ts x.operand).own); operator = compare_operator x.operator; is = refl }) (sum_in ts (out-Comparison c.args.e.now).first) c.as_slice-more.result.now c.loop-x.x-index c.x-item.result
    c.loop-x.cost c.cost_of_sum.result c.plus.result c.plus-cost.result c.loop-x-test.true c.x-item.is (c.loop-x.invariant ts) (c.cost_of_sum.ensures ts) c.plus.ensures c.plus-cost.ensures

pub cost_of_comparison-returns : goal.cost_of_comparison-returns
cost_of_comparison-returns t c = λ ts kind.
    c.loop-x.invariant ts kind ∙ (ap (λ l. limited (term_cost ((fold (λ a (x : Operation CompareOperator Sum). more_compare a (with_operand (sum_in ts) x)) (sum_in ts (out-Comparison c.args.e.now).first) l).asked kind))) (taken_all c.as_slice-more.result.now c.loop-x.x-index c.loop-x-test.false ∙ c.as_slice-more.ensures)
    ∙ sym (ap (λ (j : Elaborated). limited (term_cost (j.asked kind))) (comparison-out ts c.args.e.now)))

pub cost_of_sum-loop-x-init : goal.cost_of_sum-loop-x-init
cost_of_sum-loop-x-init t c = c.cost_of_product-cost.ensures

pub cost_of_sum-loop-x-preserved : goal.cost_of_sum-loop-x-preserved
cost_of_sum-loop-x-preserved t c = λ ts.
    cost_more (λ a (x : Operation AddOperator Product). more_add a (with_operand (product_in ts) x)) (λ x. product_in ts x.operand) (λ a x kind. record { left = kind; right = kind; operator = add_operator x.operator kind; is = refl }) (product_in ts (out-Sum c.args.e.now).first) c.as_slice-more.result.now c.loop-x.x-index c.x-item.result
    c.loop-x.cost c.cost_of_product.result c.plus.result c.plus-cost.result c.loop-x-test.true c.x-item.is (c.loop-x.invariant ts) (c.cost_of_product.ensures ts) c.plus.ensures c.plus-cost.ensures

pub cost_of_sum-returns : goal.cost_of_sum-returns
cost_of_sum-returns t c = λ ts kind.
    c.loop-x.invariant ts kind ∙ (ap (λ l. limited (term_cost ((fold (λ a (x : Operation AddOperator Product). more_add a (with_operand (product_in ts) x)) (product_in ts (out-Sum c.args.e.now).first) l).asked kind))) (taken_all c.as_slice-more.result.now c.loop-x.x-index c.loop-x-test.false ∙ c.as_slice-more.ensures)
    ∙ sym (ap (λ (j : Elaborated). limited (term_cost (j.asked kind))) (sum-out ts c.args.e.now)))

pub cost_of_product-loop-x-init : goal.cost_of_product-loop-x-init
cost_of_product-loop-x-init t c = c.cost_of_unary-cost.ensures

pub cost_of_product-loop-x-preserved : goal.cost_of_product-loop-x-preserved
cost_of_product-loop-x-preserved t c = λ ts.
    cost_more (λ a (x : Operation MultiplyOperator Unary). more_multiply a (with_operand (unary_in ts) x)) (λ x. unary_in ts x.operand) (λ a x kind. record { left = kind; right = kind; operator = multiply_operator x.operator kind; is = refl }) (unary_in ts (out-Product c.args.e.now).first) c.as_slice-more.result.now c.loop-x.x-index c.x-item.result
    c.loop-x.cost c.cost_of_unary.result c.plus.result c.plus-cost.result c.loop-x-test.true c.x-item.is (c.loop-x.invariant ts) (c.cost_of_unary.ensures ts) c.plus.ensures c.plus-cost.ensures

pub cost_of_product-returns : goal.cost_of_product-returns
cost_of_product-returns t c = λ ts kind.
    c.loop-x.invariant ts kind ∙ (ap (λ l. limited (term_cost ((fold (λ a (x : Operation MultiplyOperator Unary). more_multiply a (with_operand (unary_in ts) x)) (unary_in ts (out-Product c.args.e.now).first) l).asked kind))) (taken_all c.as_slice-more.result.now c.loop-x.x-index c.loop-x-test.false ∙ c.as_slice-more.ensures)
    ∙ sym (ap (λ (j : Elaborated). limited (term_cost (j.asked kind))) (product-out ts c.args.e.now)))

pub cost_of_unary-returns-in-Plain : goal.cost_of_unary-returns-in-Plain
cost_of_unary-returns-in-Plain t c = λ ts kind. c.cost_of_primary.ensures ts kind ∙ sym (ap (λ x. limited (term_cost ((unary_in ts x).asked kind))) c.in-Plain.is ∙ ap (λ (j : Elaborated). limited (term_cost (j.asked kind))) (plain-is ts c.in-Plain.primary))

pub cost_of_unary-returns-in-Minus : goal.cost_of_unary-returns-in-Minus
cost_of_unary-returns-in-Minus t c = λ ts kind. c.plus.ensures (term_cost ((primary_in ts c.in-Minus.primary).asked kind)) 1 (c.cost_of_primary-in-Minus.ensures ts kind) refl ∙ ap limited (sym (unary_cost (core.Negate kind) ((primary_in ts c.in-Minus.primary).asked kind))) ∙ sym (ap (λ x. limited (term_cost ((unary_in ts x).asked kind))) c.in-Minus.is ∙ ap (λ (j : Elaborated). limited (term_cost (j.asked kind))) (minus-is ts c.in-Minus.field-0 c.in-Minus.primary))

pub cost_of_unary-returns-in-Not : goal.cost_of_unary-returns-in-Not
cost_of_unary-returns-in-Not t c = λ ts kind. c.plus-in-Not.ensures (term_cost ((primary_in ts c.in-Not.primary).asked k.Bool)) 1 (c.cost_of_primary-in-Not.ensures ts k.Bool) refl ∙ ap limited (sym (unary_cost core.Not ((primary_in ts c.in-Not.primary).asked k.Bool))) ∙ sym (ap (λ x. limited (term_cost ((unary_in ts x).asked kind))) c.in-Not.is ∙ ap (λ (j : Elaborated). limited (term_cost (j.asked kind))) (not-is ts c.in-Not.field-0 c.in-Not.primary))

pub cost_of_primary-returns-in-Bracketed : goal.cost_of_primary-returns-in-Bracketed
cost_of_primary-returns-in-Bracketed t c = λ ts kind. c.cost_of_expr-in-Bracketed.ensures ts kind ∙ ap (λ x. limited (term_cost ((elaborated ts x).asked kind))) c.get-in-Bracketed.ensures ∙ sym (ap (λ x. limited (term_cost ((primary_in ts x).asked kind))) c.in-Bracketed.is ∙ ap (λ (j : Elaborated). limited (term_cost (j.asked kind))) (bracketed-is ts c.in-Bracketed.field-0 c.in-Bracketed.inside))

pub cost_of_primary-returns-in-Element : goal.cost_of_primary-returns-in-Element
cost_of_primary-returns-in-Element t c = λ ts kind. c.plus.ensures (term_cost (settled_term (elaborated ts c.get.result.now))) 1 (c.cost_of_expr.ensures ts (settled (elaborated ts c.get.result.now).own)) refl ∙ ap (λ x. limited (term_cost (settled_term (elaborated ts x)) + 1)) c.get.ensures ∙ ap limited (sym (element_cost c.in-Element.field-0.name (element_type (type_of ts c.in-Element.field-0.name)) (low_bound (type_of ts c.in-Element.field-0.name)) (high_bound (type_of ts c.in-Element.field-0.name)) (settled_term (elaborated ts c.in-Element.index)))) ∙ sym (ap (λ x. limited (term_cost ((primary_in ts x).asked kind))) c.in-Element.is ∙ ap (λ (j : Elaborated). limited (term_cost (j.asked kind))) (element-is ts c.in-Element.field-0 c.in-Element.index))

pub cost_of_primary-returns-in-Number : goal.cost_of_primary-returns-in-Number
cost_of_primary-returns-in-Number t c = λ ts kind. ap limited (sym (literal_cost (pos c.in-Number.field-0))) ∙ sym (ap (λ x. limited (term_cost ((primary_in ts x).asked kind))) c.in-Number.is ∙ ap (λ (j : Elaborated). limited (term_cost (j.asked kind))) (number-is ts c.in-Number.field-0 c.in-Number.field-1))

pub cost_of_primary-returns-in-Truth : goal.cost_of_primary-returns-in-Truth
cost_of_primary-returns-in-Truth t c = λ ts kind. ap limited (sym (literal_cost (number c.in-Truth.field-0))) ∙ sym (ap (λ x. limited (term_cost ((primary_in ts x).asked kind))) c.in-Truth.is ∙ ap (λ (j : Elaborated). limited (term_cost (j.asked kind))) (truth-is ts c.in-Truth.field-0 c.in-Truth.field-1))

pub cost_of_primary-returns-in-Tag : goal.cost_of_primary-returns-in-Tag
cost_of_primary-returns-in-Tag t c = λ ts kind. ap limited (sym (field_cost c.in-Tag.field-0.name 0 (word_type (type_of ts c.in-Tag.field-0.name)))) ∙ sym (ap (λ x. limited (term_cost ((primary_in ts x).asked kind))) c.in-Tag.is ∙ ap (λ (j : Elaborated). limited (term_cost (j.asked kind))) (tag-is ts c.in-Tag.field-0))

pub cost_of_primary-returns-in-Field : goal.cost_of_primary-returns-in-Field
cost_of_primary-returns-in-Field t c = λ ts kind. ap limited (sym (field_cost c.in-Field.field-0.name (field_place (block_of (type_of ts c.in-Field.field-0.name)) c.in-Field.field-1.name) (field_type (block_of (type_of ts c.in-Field.field-0.name)) c.in-Field.field-1.name))) ∙ sym (ap (λ x. limited (term_cost ((primary_in ts x).asked kind))) c.in-Field.is ∙ ap (λ (j : Elaborated). limited (term_cost (j.asked kind))) (field-is ts c.in-Field.field-0 c.in-Field.field-1))

pub cost_of_primary-returns-in-Call : goal.cost_of_primary-returns-in-Call
cost_of_primary-returns-in-Call t c = λ ts kind. c.cost_of_arguments.ensures ts kind ∙ ap (λ x. limited (term_cost (function_term c.in-Call.function (arguments_in ts x) kind))) c.get-in-Call.ensures ∙ sym (ap (λ x. limited (term_cost ((primary_in ts x).asked kind))) c.in-Call.is ∙ ap (λ (j : Elaborated). limited (term_cost (j.asked kind))) (call-is ts c.in-Call.function c.in-Call.field-1 c.in-Call.arguments))

pub cost_of_arguments-loop-x-init : goal.cost_of_arguments-loop-x-init
cost_of_arguments-loop-x-init t c = λ ts kind.
    let f = λ (x : Expr). (elaborated ts x).asked kind in let first = (elaborated ts (out-Arguments c.args.e.now).first).asked (first_asked c.args.function kind) in
    counts_from (argument_cost f) (λ (x : Expr). term_cost (f x)) (cost_law f) c.as_slice-more.result.now (term_cost first + argument_cost f c.as_slice-more.result.now) (term_cost first) c.cost_of_expr-cost.result (c.cost_of_expr-cost.ensures ts (first_asked c.args.function kind)) refl

pub cost_of_arguments-loop-x-preserved : goal.cost_of_arguments-loop-x-preserved
cost_of_arguments-loop-x-preserved t c = λ ts kind.
    let f = λ (x : Expr). (elaborated ts x).asked kind in let first = (elaborated ts (out-Arguments c.args.e.now).first).asked (first_asked c.args.function kind) in
    counts_more (argument_cost f) (λ (x : Expr). term_cost (f x)) (cost_law f) c.as_slice-more.result.now c.loop-x.x-index (term_cost first + argument_cost f c.as_slice-more.result.now) c.x-item.result c.loop-x.cost c.cost_of_expr.result c.plus-cost.result c.loop-x-test.true c.x-item.is (c.loop-x.invariant ts kind) (c.cost_of_expr.ensures ts kind) c.plus-cost.ensures

pub cost_of_arguments-returns-then-more-further_arguments : goal.cost_of_arguments-returns-then-more-further_arguments
cost_of_arguments-returns-then-more-further_arguments t c = λ ts kind.
    let f = λ (x : Expr). (elaborated ts x).asked kind in let first = (elaborated ts (out-Arguments c.args.e.now).first).asked (first_asked c.args.function kind) in let o = operator_of c.args.function kind in
    let all = counts_none (argument_cost f) (λ (x : Expr). term_cost (f x)) (cost_law f) c.as_slice-more.result.now c.loop-x.x-index (term_cost first + argument_cost f c.as_slice-more.result.now) c.loop-x.cost c.loop-x-test.false (c.loop-x.invariant ts kind) (no_cost f) in
    c.plus.ensures (term_cost first + argument_cost f c.as_slice-more.result.now) 1 all refl
    ∙ (ap limited (combined_cost o first f c.as_slice-more.result.now (c.if-more-further_arguments.true ∙ c.further_arguments.ensures kind)) ∙ (ap (λ l. limited (term_cost (combined o first (map f l)))) c.as_slice-more.ensures
    ∙ sym (ap (λ (args : List Elaborated). limited (term_cost (function_term c.args.function args kind))) (arguments-out ts c.args.e.now) ∙ ap (λ l. limited (term_cost (combined o first l))) (map_twice (elaborated ts) (argument_asked kind) (out-Arguments c.args.e.now).more))))

pub cost_of_arguments-returns-else-more-further_arguments : goal.cost_of_arguments-returns-else-more-further_arguments
cost_of_arguments-returns-else-more-further_arguments t c = λ ts kind.
    let f = λ (x : Expr). (elaborated ts x).asked kind in let first = (elaborated ts (out-Arguments c.args.e.now).first).asked (first_asked c.args.function kind) in let o = operator_of c.args.function kind in
    ap limited (other_cost o first f c.as_slice-more.result.now (λ same. c.if-more-further_arguments.false (same ∙ sym (c.further_arguments.ensures kind)))) ∙ (ap (λ l. limited (term_cost (combined o first (map f l)))) c.as_slice-more.ensures
    ∙ sym (ap (λ (args : List Elaborated). limited (term_cost (function_term c.args.function args kind))) (arguments-out ts c.args.e.now) ∙ ap (λ l. limited (term_cost (combined o first l))) (map_twice (elaborated ts) (argument_asked kind) (out-Arguments c.args.e.now).more)))
