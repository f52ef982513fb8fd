use Rattle.std.proofs.Common.{◌≡◌, ◌++◌, OnOk, [], ◌∷◌, pos, fold, List, map, refl, ap, sym, ◌∙◌, subst, append-nil}
use Rattle.function_blocks.specs.Values.{number}
use Rattle.st_tree.specs.declared.expression.Operation.{Operation}
use Rattle.st_tree.specs.declared.expression.EqualOperator.{EqualOperator}
use Rattle.st_tree.specs.declared.expression.CompareOperator.{CompareOperator}
use Rattle.st_tree.specs.declared.expression.AddOperator.{AddOperator}
use Rattle.st_tree.specs.declared.expression.MultiplyOperator.{MultiplyOperator}
use Rattle.st_tree.specs.declared.expression.Expr.{Expr, out-Expr}
use Rattle.st_tree.specs.declared.expression.Exclusive.{Exclusive, out-Exclusive}
use Rattle.st_tree.specs.declared.expression.Conjunction.{Conjunction, out-Conjunction}
use Rattle.st_tree.specs.declared.expression.Equality.{Equality, out-Equality}
use Rattle.st_tree.specs.declared.expression.Comparison.{Comparison, out-Comparison}
use Rattle.st_tree.specs.declared.expression.Sum.{Sum, out-Sum}
use Rattle.st_tree.specs.declared.expression.Product.{Product, out-Product}
use Rattle.st_tree.specs.declared.expression.Unary.{Unary}
use Rattle.st_tree.specs.declared.expression.Arguments.{out-Arguments}
use Rattle.st_tree.proofs.ExpressionEquations.{with_operand}
use Rattle.function_blocks.specs.declared.kinds.Kind.TheVariants as k
use Rattle.st_core.specs.Core as core
use Rattle.st_core.specs.Core.{BinaryOperator}
use Rattle.st_core.specs.Codes.{term_code}
use Rattle.st_sound.specs.Shapes.{shape_in}
use Rattle.st_meaning.specs.Functions.{operator_of, combined, first_asked}
use Rattle.st_meaning.specs.Expressions.{Elaborated, argument_asked, function_term, logic, equal_operator, compare_operator, add_operator, multiply_operator, more_equal, more_compare, more_add, more_multiply, elaborated}
use Rattle.code_size.specs.Inner.Ranks.{exclusive_in, conjunction_in, equality_in, comparison_in, sum_in, product_in, unary_in, primary_in, arguments_in}
use Rattle.code_size.proofs.Elaborations.{expr-out, exclusive-out, conjunction-out, equality-out, comparison-out, sum-out, product-out, plain-is, minus-is, not-is, number-is, truth-is, tag-is, field-is, element-is, bracketed-is, call-is, arguments-out}
use Rattle.code_size.proofs.Rows.{taken_all}
use Rattle.code_size.proofs.Countings.{map_twice}
use Rattle.scan_code.proofs.OwnTypes.{alone}
use Rattle.scan_code.proofs.RowCodes.{unary_code, code_more, logic_all, compares_first, compares_more, compares_all}
use Rattle.scan_code.proofs.CallCodes.{argument_code, code_law, no_code, call_code, other_code}
use Rattle.scan_code.proofs.ListCodes.{codes_more, codes_all}
use Rattle.scan_code.proofs.Primaries.{on_ok, push_code, load_code, load_at_code}
use Rattle.scan_code.proofs.expressions.+emit.Goals as goal

pub emit_expr-returns-then-is_empty : goal.emit_expr-returns-then-is_empty
emit_expr-returns-then-is_empty t c =
    subst (λ (j : Elaborated). OnOk c.emit_exclusive.result (c.emit_exclusive.new.code.items ≡ c.args.code.now.items ++ term_code (shape_in c.args.layout.now) (j.asked c.args.asked)))
    (sym (expr-out c.args.layout.now c.args.e.now ∙ alone (λ a (x : Exclusive). logic core.Or a (exclusive_in c.args.layout.now x)) (exclusive_in c.args.layout.now (out-Expr c.args.e.now).first) (out-Expr c.args.e.now).more c.as_slice-more.result.now c.as_slice-more.ensures c.if-is_empty.ensures)) c.emit_exclusive.ensures

pub emit_expr-loop-x-init : goal.emit_expr-loop-x-init
emit_expr-loop-x-init t c = c.in_ok-emit_exclusive.ensures

pub emit_expr-loop-x-preserved : goal.emit_expr-loop-x-preserved
emit_expr-loop-x-preserved t c =
    code_more (shape_in c.args.layout.now) k.Bool (λ a (x : Exclusive). logic core.Or a (exclusive_in c.args.layout.now x)) (λ (x : Exclusive). core.Or) (λ x. (exclusive_in c.args.layout.now x).asked k.Bool) (λ a x. refl) (exclusive_in c.args.layout.now (out-Expr c.args.e.now).first) c.as_slice-more.result.now c.loop-x.x-index c.x-item.result
    c.args.code.now.items c.loop-x.code.items c.emit_exclusive-in-loop-x.new.code.items c.put.new.code.items c.loop-x-test.true c.x-item.is c.loop-x.invariant c.in_ok-emit_exclusive-2.ensures c.in_ok-put.ensures

pub emit_expr-returns : goal.emit_expr-returns
emit_expr-returns t c =
    logic_all (λ a (x : Exclusive). logic core.Or a (exclusive_in c.args.layout.now x)) (λ a x j l. refl) (shape_in c.args.layout.now) (exclusive_in c.args.layout.now (out-Expr c.args.e.now).first) (out-Expr c.args.e.now).more c.as_slice-more.result.now c.loop-x.x-index c.args.asked c.args.code.now.items c.loop-x.code.items c.as_slice-more.ensures c.if-is_empty.ensures c.loop-x-test.false c.loop-x.invariant
    ∙ sym (ap (λ (j : Elaborated). c.args.code.now.items ++ term_code (shape_in c.args.layout.now) (j.asked c.args.asked)) (expr-out c.args.layout.now c.args.e.now))

pub emit_exclusive-returns-then-is_empty : goal.emit_exclusive-returns-then-is_empty
emit_exclusive-returns-then-is_empty t c =
    subst (λ (j : Elaborated). OnOk c.emit_conjunction.result (c.emit_conjunction.new.code.items ≡ c.args.code.now.items ++ term_code (shape_in c.args.layout.now) (j.asked c.args.asked)))
    (sym (exclusive-out c.args.layout.now c.args.e.now ∙ alone (λ a (x : Conjunction). logic core.Xor a (conjunction_in c.args.layout.now x)) (conjunction_in c.args.layout.now (out-Exclusive c.args.e.now).first) (out-Exclusive c.args.e.now).more c.as_slice-more.result.now c.as_slice-more.ensures c.if-is_empty.ensures)) c.emit_conjunction.ensures

pub emit_exclusive-loop-x-init : goal.emit_exclusive-loop-x-init
emit_exclusive-loop-x-init t c = c.in_ok-emit_conjunction.ensures

pub emit_exclusive-loop-x-preserved : goal.emit_exclusive-loop-x-preserved
emit_exclusive-loop-x-preserved t c =
    code_more (shape_in c.args.layout.now) k.Bool (λ a (x : Conjunction). logic core.Xor a (conjunction_in c.args.layout.now x)) (λ (x : Conjunction). core.Xor) (λ x. (conjunction_in c.args.layout.now x).asked k.Bool) (λ a x. refl) (conjunction_in c.args.layout.now (out-Exclusive c.args.e.now).first) c.as_slice-more.result.now c.loop-x.x-index c.x-item.result
    c.args.code.now.items c.loop-x.code.items c.emit_conjunction-in-loop-x.new.code.items c.put.new.code.items c.loop-x-test.true c.x-item.is c.loop-x.invariant c.in_ok-emit_conjunction-2.ensures c.in_ok-put.ensures

pub emit_exclusive-returns : goal.emit_exclusive-returns
emit_exclusive-returns t c =
    logic_all (λ a (x : Conjunction). logic core.Xor a (conjunction_in c.args.layout.now x)) (λ a x j l. refl) (shape_in c.args.layout.now) (conjunction_in c.args.layout.now (out-Exclusive c.args.e.now).first) (out-Exclusive c.args.e.now).more c.as_slice-more.result.now c.loop-x.x-index c.args.asked c.args.code.now.items c.loop-x.code.items c.as_slice-more.ensures c.if-is_empty.ensures c.loop-x-test.false c.loop-x.invariant
    ∙ sym (ap (λ (j : Elaborated). c.args.code.now.items ++ term_code (shape_in c.args.layout.now) (j.asked c.args.asked)) (exclusive-out c.args.layout.now c.args.e.now))

pub emit_conjunction-returns-then-is_empty : goal.emit_conjunction-returns-then-is_empty
emit_conjunction-returns-then-is_empty t c =
    subst (λ (j : Elaborated). OnOk c.emit_equality.result (c.emit_equality.new.code.items ≡ c.args.code.now.items ++ term_code (shape_in c.args.layout.now) (j.asked c.args.asked)))
    (sym (conjunction-out c.args.layout.now c.args.e.now ∙ alone (λ a (x : Equality). logic core.And a (equality_in c.args.layout.now x)) (equality_in c.args.layout.now (out-Conjunction c.args.e.now).first) (out-Conjunction c.args.e.now).more c.as_slice-more.result.now c.as_slice-more.ensures c.if-is_empty.ensures)) c.emit_equality.ensures

pub emit_conjunction-loop-x-init : goal.emit_conjunction-loop-x-init
emit_conjunction-loop-x-init t c = c.in_ok-emit_equality.ensures

pub emit_conjunction-loop-x-preserved : goal.emit_conjunction-loop-x-preserved
emit_conjunction-loop-x-preserved t c =
    code_more (shape_in c.args.layout.now) k.Bool (λ a (x : Equality). logic core.And a (equality_in c.args.layout.now x)) (λ (x : Equality). core.And) (λ x. (equality_in c.args.layout.now x).asked k.Bool) (λ a x. refl) (equality_in c.args.layout.now (out-Conjunction c.args.e.now).first) c.as_slice-more.result.now c.loop-x.x-index c.x-item.result
    c.args.code.now.items c.loop-x.code.items c.emit_equality-in-loop-x.new.code.items c.put.new.code.items c.loop-x-test.true c.x-item.is c.loop-x.invariant c.in_ok-emit_equality-2.ensures c.in_ok-put.ensures

pub emit_conjunction-returns : goal.emit_conjunction-returns
emit_conjunction-returns t c =
    logic_all (λ a (x : Equality). logic core.And a (equality_in c.args.layout.now x)) (λ a x j l. refl) (shape_in c.args.layout.now) (equality_in c.args.layout.now (out-Conjunction c.args.e.now).first) (out-Conjunction c.args.e.now).more c.as_slice-more.result.now c.loop-x.x-index c.args.asked c.args.code.now.items c.loop-x.code.items c.as_slice-more.ensures c.if-is_empty.ensures c.loop-x-test.false c.loop-x.invariant
    ∙ sym (ap (λ (j : Elaborated). c.args.code.now.items ++ term_code (shape_in c.args.layout.now) (j.asked c.args.asked)) (conjunction-out c.args.layout.now c.args.e.now))

pub emit_equality-returns-then-is_empty : goal.emit_equality-returns-then-is_empty
emit_equality-returns-then-is_empty t c =
    subst (λ (j : Elaborated). OnOk c.emit_comparison.result (c.emit_comparison.new.code.items ≡ c.args.code.now.items ++ term_code (shape_in c.args.layout.now) (j.asked c.args.asked)))
    (sym (equality-out c.args.layout.now c.args.e.now ∙ alone (λ a (x : Operation EqualOperator Comparison). more_equal a (with_operand (comparison_in c.args.layout.now) x)) (comparison_in c.args.layout.now (out-Equality c.args.e.now).first) (out-Equality c.args.e.now).more c.as_slice-more.result.now c.as_slice-more.ensures c.if-is_empty.ensures)) c.emit_comparison.ensures

pub emit_equality-loop-x-init : goal.emit_equality-loop-x-init
emit_equality-loop-x-init t c =
    compares_first (λ (x : Operation EqualOperator Comparison). equal_operator x.operator) (λ x. comparison_in c.args.layout.now x.operand) (shape_in c.args.layout.now) (comparison_in c.args.layout.now (out-Equality c.args.e.now).first) c.as_slice-more.result.now c.index-more-0.result c.type_of_comparison-first.result c.type_of_comparison-second.result c.common.result c.settled-at.result c.args.code.now.items c.emit_comparison-2.new.code.items
    c.index-more-0.is c.type_of_comparison-first.ensures (c.type_of_comparison-second.ensures ∙ ap (λ (x : Operation EqualOperator Comparison). (comparison_in c.args.layout.now x.operand).own) (sym c.index-more-0.is)) c.common.ensures c.settled-at.ensures c.in_ok-emit_comparison.ensures

pub emit_equality-loop-x-preserved : goal.emit_equality-loop-x-preserved
emit_equality-loop-x-preserved t c =
    compares_more (λ (x : Operation EqualOperator Comparison). equal_operator x.operator) (λ x. comparison_in c.args.layout.now x.operand) (shape_in c.args.layout.now) (comparison_in c.args.layout.now (out-Equality c.args.e.now).first) c.as_slice-more.result.now c.loop-x.x-index c.x-item.result c.loop-x.at c.args.code.now.items c.loop-x.code.items c.emit_comparison-in-loop-x.new.code.items c.put.new.code.items
    c.loop-x-test.true c.x-item.is c.loop-x.invariant c.in_ok-emit_comparison-2.ensures (c.in_ok-put.ensures ∙ ap (λ i. c.emit_comparison-in-loop-x.new.code.items ++ i ∷ []) c.equal_instr.ensures)

pub emit_equality-returns : goal.emit_equality-returns
emit_equality-returns t c =
    compares_all (λ (x : Operation EqualOperator Comparison). equal_operator x.operator) (λ x. comparison_in c.args.layout.now x.operand) (shape_in c.args.layout.now) (comparison_in c.args.layout.now (out-Equality c.args.e.now).first) (out-Equality c.args.e.now).more c.as_slice-more.result.now c.loop-x.x-index c.loop-x.at c.args.asked c.args.code.now.items c.loop-x.code.items c.as_slice-more.ensures c.if-is_empty.ensures c.loop-x-test.false c.loop-x.invariant
    ∙ sym (ap (λ (j : Elaborated). c.args.code.now.items ++ term_code (shape_in c.args.layout.now) (j.asked c.args.asked)) (equality-out c.args.layout.now c.args.e.now))

pub emit_comparison-returns-then-is_empty : goal.emit_comparison-returns-then-is_empty
emit_comparison-returns-then-is_empty t c =
    subst (λ (j : Elaborated). OnOk c.emit_sum.result (c.emit_sum.new.code.items ≡ c.args.code.now.items ++ term_code (shape_in c.args.layout.now) (j.asked c.args.asked)))
    (sym (comparison-out c.args.layout.now c.args.e.now ∙ alone (λ a (x : Operation CompareOperator Sum). more_compare a (with_operand (sum_in c.args.layout.now) x)) (sum_in c.args.layout.now (out-Comparison c.args.e.now).first) (out-Comparison c.args.e.now).more c.as_slice-more.result.now c.as_slice-more.ensures c.if-is_empty.ensures)) c.emit_sum.ensures

pub emit_comparison-loop-x-init : goal.emit_comparison-loop-x-init
emit_comparison-loop-x-init t c =
    compares_first (λ (x : Operation CompareOperator Sum). compare_operator x.operator) (λ x. sum_in c.args.layout.now x.operand) (shape_in c.args.layout.now) (sum_in c.args.layout.now (out-Comparison c.args.e.now).first) c.as_slice-more.result.now c.index-more-0.result c.type_of_sum-first.result c.type_of_sum-second.result c.common.result c.settled-at.result c.args.code.now.items c.emit_sum-2.new.code.items
    c.index-more-0.is c.type_of_sum-first.ensures (c.type_of_sum-second.ensures ∙ ap (λ (x : Operation CompareOperator Sum). (sum_in c.args.layout.now x.operand).own) (sym c.index-more-0.is)) c.common.ensures c.settled-at.ensures c.in_ok-emit_sum.ensures

pub emit_comparison-loop-x-preserved : goal.emit_comparison-loop-x-preserved
emit_comparison-loop-x-preserved t c =
    compares_more (λ (x : Operation CompareOperator Sum). compare_operator x.operator) (λ x. sum_in c.args.layout.now x.operand) (shape_in c.args.layout.now) (sum_in c.args.layout.now (out-Comparison c.args.e.now).first) c.as_slice-more.result.now c.loop-x.x-index c.x-item.result c.loop-x.at c.args.code.now.items c.loop-x.code.items c.emit_sum-in-loop-x.new.code.items c.put.new.code.items
    c.loop-x-test.true c.x-item.is c.loop-x.invariant c.in_ok-emit_sum-2.ensures (c.in_ok-put.ensures ∙ ap (λ i. c.emit_sum-in-loop-x.new.code.items ++ i ∷ []) c.compare_instr.ensures)

pub emit_comparison-returns : goal.emit_comparison-returns
emit_comparison-returns t c =
    compares_all (λ (x : Operation CompareOperator Sum). compare_operator x.operator) (λ x. sum_in c.args.layout.now x.operand) (shape_in c.args.layout.now) (sum_in c.args.layout.now (out-Comparison c.args.e.now).first) (out-Comparison c.args.e.now).more c.as_slice-more.result.now c.loop-x.x-index c.loop-x.at c.args.asked c.args.code.now.items c.loop-x.code.items c.as_slice-more.ensures c.if-is_empty.ensures c.loop-x-test.false c.loop-x.invariant
    ∙ sym (ap (λ (j : Elaborated). c.args.code.now.items ++ term_code (shape_in c.args.layout.now) (j.asked c.args.asked)) (comparison-out c.args.layout.now c.args.e.now))

pub emit_sum-loop-x-init : goal.emit_sum-loop-x-init
emit_sum-loop-x-init t c = c.in_ok-emit_product.ensures

pub emit_sum-loop-x-preserved : goal.emit_sum-loop-x-preserved
emit_sum-loop-x-preserved t c =
    code_more (shape_in c.args.layout.now) c.args.asked (λ a (x : Operation AddOperator Product). more_add a (with_operand (product_in c.args.layout.now) x)) (λ (x : Operation AddOperator Product). add_operator x.operator c.args.asked) (λ x. (product_in c.args.layout.now x.operand).asked c.args.asked) (λ a x. refl) (product_in c.args.layout.now (out-Sum c.args.e.now).first) c.as_slice-more.result.now c.loop-x.x-index c.x-item.result
    c.args.code.now.items c.loop-x.code.items c.emit_product-in-loop-x.new.code.items c.put.new.code.items c.loop-x-test.true c.x-item.is c.loop-x.invariant c.in_ok-emit_product-2.ensures (c.in_ok-put.ensures ∙ ap (λ i. c.emit_product-in-loop-x.new.code.items ++ i ∷ []) c.add_instr.ensures)

pub emit_sum-returns : goal.emit_sum-returns
emit_sum-returns t c =
    c.loop-x.invariant ∙ (ap (λ l. c.args.code.now.items ++ term_code (shape_in c.args.layout.now) ((fold (λ a (x : Operation AddOperator Product). more_add a (with_operand (product_in c.args.layout.now) x)) (product_in c.args.layout.now (out-Sum c.args.e.now).first) l).asked c.args.asked)) (taken_all c.as_slice-more.result.now c.loop-x.x-index c.loop-x-test.false ∙ c.as_slice-more.ensures)
    ∙ sym (ap (λ (j : Elaborated). c.args.code.now.items ++ term_code (shape_in c.args.layout.now) (j.asked c.args.asked)) (sum-out c.args.layout.now c.args.e.now)))

pub emit_product-loop-x-init : goal.emit_product-loop-x-init
emit_product-loop-x-init t c = c.in_ok-emit_unary.ensures

pub emit_product-loop-x-preserved : goal.emit_product-loop-x-preserved
emit_product-loop-x-preserved t c =
    code_more (shape_in c.args.layout.now) c.args.asked (λ a (x : Operation MultiplyOperator Unary). more_multiply a (with_operand (unary_in c.args.layout.now) x)) (λ (x : Operation MultiplyOperator Unary). multiply_operator x.operator c.args.asked) (λ x. (unary_in c.args.layout.now x.operand).asked c.args.asked) (λ a x. refl) (unary_in c.args.layout.now (out-Product c.args.e.now).first) c.as_slice-more.result.now c.loop-x.x-index c.x-item.result
    c.args.code.now.items c.loop-x.code.items c.emit_unary-in-loop-x.new.code.items c.put.new.code.items c.loop-x-test.true c.x-item.is c.loop-x.invariant c.in_ok-emit_unary-2.ensures (c.in_ok-put.ensures ∙ ap (λ i. c.emit_unary-in-loop-x.new.code.items ++ i ∷ []) c.multiply_instr.ensures)

pub emit_product-returns : goal.emit_product-returns
emit_product-returns t c =
    c.loop-x.invariant ∙ (ap (λ l. c.args.code.now.items ++ term_code (shape_in c.args.layout.now) ((fold (λ a (x : Operation MultiplyOperator Unary). more_multiply a (with_operand (unary_in c.args.layout.now) x)) (unary_in c.args.layout.now (out-Product c.args.e.now).first) l).asked c.args.asked)) (taken_all c.as_slice-more.result.now c.loop-x.x-index c.loop-x-test.false ∙ c.as_slice-more.ensures)
    ∙ sym (ap (λ (j : Elaborated). c.args.code.now.items ++ term_code (shape_in c.args.layout.now) (j.asked c.args.asked)) (product-out c.args.layout.now c.args.e.now)))

pub emit_unary-returns-in-Plain : goal.emit_unary-returns-in-Plain
emit_unary-returns-in-Plain t c =
    subst (λ (j : Elaborated). OnOk c.emit_primary.result (c.emit_primary.new.code.items ≡ c.args.code.now.items ++ term_code (shape_in c.args.layout.now) (j.asked c.args.asked)))
    (sym (ap (unary_in c.args.layout.now) c.in-Plain.is ∙ plain-is c.args.layout.now c.in-Plain.primary)) (c.emit_primary.ensures)

pub emit_unary-returns-in_ok-emit_primary-in-Minus : goal.emit_unary-returns-in_ok-emit_primary-in-Minus
emit_unary-returns-in_ok-emit_primary-in-Minus t c =
    subst (λ (j : Elaborated). OnOk c.put.result (c.put.new.code.items ≡ c.args.code.now.items ++ term_code (shape_in c.args.layout.now) (j.asked c.args.asked)))
    (sym (ap (unary_in c.args.layout.now) c.in-Minus.is ∙ minus-is c.args.layout.now c.in-Minus.field-0 c.in-Minus.primary)) (on_ok c.put.result c.put.ensures (λ e. unary_code (shape_in c.args.layout.now) (core.Negate c.args.asked) ((primary_in c.args.layout.now c.in-Minus.primary).asked c.args.asked) c.args.code.now.items c.emit_primary-in-Minus.new.code.items c.put.new.code.items c.in_ok-emit_primary-in-Minus.ensures e))

pub emit_unary-returns-in_ok-emit_primary-in-Not : goal.emit_unary-returns-in_ok-emit_primary-in-Not
emit_unary-returns-in_ok-emit_primary-in-Not t c =
    subst (λ (j : Elaborated). OnOk c.put-in-Not.result (c.put-in-Not.new.code.items ≡ c.args.code.now.items ++ term_code (shape_in c.args.layout.now) (j.asked c.args.asked)))
    (sym (ap (unary_in c.args.layout.now) c.in-Not.is ∙ not-is c.args.layout.now c.in-Not.field-0 c.in-Not.primary)) (on_ok c.put-in-Not.result c.put-in-Not.ensures (λ e. unary_code (shape_in c.args.layout.now) core.Not ((primary_in c.args.layout.now c.in-Not.primary).asked k.Bool) c.args.code.now.items c.emit_primary-in-Not.new.code.items c.put-in-Not.new.code.items c.in_ok-emit_primary-in-Not.ensures e))

pub emit_primary-returns-in-Number : goal.emit_primary-returns-in-Number
emit_primary-returns-in-Number t c =
    subst (λ (j : Elaborated). OnOk c.put.result (c.put.new.code.items ≡ c.args.code.now.items ++ term_code (shape_in c.args.layout.now) (j.asked c.args.asked)))
    (sym (ap (primary_in c.args.layout.now) c.in-Number.is ∙ number-is c.args.layout.now c.in-Number.number _)) (on_ok c.put.result c.put.ensures (λ e. push_code (shape_in c.args.layout.now) (pos c.in-Number.number) c.args.code.now.items c.put.new.code.items (e ∙ ap (λ x. c.args.code.now.items ++ x ∷ []) c.push_number.ensures)))

pub emit_primary-returns-in-Truth : goal.emit_primary-returns-in-Truth
emit_primary-returns-in-Truth t c =
    subst (λ (j : Elaborated). OnOk c.put-in-Truth.result (c.put-in-Truth.new.code.items ≡ c.args.code.now.items ++ term_code (shape_in c.args.layout.now) (j.asked c.args.asked)))
    (sym (ap (primary_in c.args.layout.now) c.in-Truth.is ∙ truth-is c.args.layout.now c.in-Truth.value _)) (on_ok c.put-in-Truth.result c.put-in-Truth.ensures (λ e. push_code (shape_in c.args.layout.now) (number c.in-Truth.value) c.args.code.now.items c.put-in-Truth.new.code.items (e ∙ ap (λ x. c.args.code.now.items ++ x ∷ []) c.push_truth.ensures)))

pub emit_primary-returns-in-Tag : goal.emit_primary-returns-in-Tag
emit_primary-returns-in-Tag t c =
    subst (λ (j : Elaborated). OnOk c.put-in-Tag.result (c.put-in-Tag.new.code.items ≡ c.args.code.now.items ++ term_code (shape_in c.args.layout.now) (j.asked c.args.asked)))
    (sym (ap (primary_in c.args.layout.now) c.in-Tag.is ∙ tag-is c.args.layout.now c.in-Tag.tag)) (on_ok c.put-in-Tag.result c.put-in-Tag.ensures (λ e. load_code c.args.layout.now c.in-Tag.tag.name c.find.result c.load.result c.args.asked c.args.code.now.items c.put-in-Tag.new.code.items c.find.ensures.found c.load.ensures e))

pub emit_primary-returns-in_ok-emit_expr-in-Element : goal.emit_primary-returns-in_ok-emit_expr-in-Element
emit_primary-returns-in_ok-emit_expr-in-Element t c =
    subst (λ (j : Elaborated). OnOk c.put-in-Element.result (c.put-in-Element.new.code.items ≡ c.args.code.now.items ++ term_code (shape_in c.args.layout.now) (j.asked c.args.asked)))
    (sym (ap (primary_in c.args.layout.now) c.in-Element.is ∙ element-is c.args.layout.now c.in-Element.array c.in-Element.index)) (on_ok c.put-in-Element.result c.put-in-Element.ensures (λ e. load_at_code c.args.layout.now c.in-Element.array.name c.find-in-Element.result c.load_at.result c.args.asked (elaborated c.args.layout.now c.in-Element.index) c.type_of_expr.result c.settled-at.result c.args.code.now.items c.emit_expr.new.code.items c.put-in-Element.new.code.items c.find-in-Element.ensures.found c.load_at.ensures (c.type_of_expr.ensures ∙ ap (λ x. (elaborated c.args.layout.now x).own) c.get.ensures) c.settled-at.ensures (c.in_ok-emit_expr-in-Element.ensures ∙ ap (λ x. c.args.code.now.items ++ term_code (shape_in c.args.layout.now) ((elaborated c.args.layout.now x).asked c.settled-at.result)) c.get-in-Element.ensures) e))

pub emit_primary-returns-in-Bracketed : goal.emit_primary-returns-in-Bracketed
emit_primary-returns-in-Bracketed t c =
    subst (λ (j : Elaborated). OnOk c.emit_expr-in-Bracketed.result (c.emit_expr-in-Bracketed.new.code.items ≡ c.args.code.now.items ++ term_code (shape_in c.args.layout.now) (j.asked c.args.asked)))
    (sym (ap (primary_in c.args.layout.now) c.in-Bracketed.is ∙ bracketed-is c.args.layout.now c.in-Bracketed.field-0 c.in-Bracketed.inside)) (subst (λ x. OnOk c.emit_expr-in-Bracketed.result (c.emit_expr-in-Bracketed.new.code.items ≡ c.args.code.now.items ++ term_code (shape_in c.args.layout.now) ((elaborated c.args.layout.now x).asked c.args.asked))) c.get-in-Bracketed.ensures c.emit_expr-in-Bracketed.ensures)

pub emit_primary-returns-in-Field : goal.emit_primary-returns-in-Field
emit_primary-returns-in-Field t c =
    subst (λ (j : Elaborated). OnOk c.emit_field.result (c.emit_field.new.code.items ≡ c.args.code.now.items ++ term_code (shape_in c.args.layout.now) (j.asked c.args.asked)))
    (sym (ap (primary_in c.args.layout.now) c.in-Field.is ∙ field-is c.args.layout.now c.in-Field.block c.in-Field.field)) (c.emit_field.ensures)

pub emit_primary-returns-in-Call : goal.emit_primary-returns-in-Call
emit_primary-returns-in-Call t c =
    subst (λ (j : Elaborated). OnOk c.emit_call.result (c.emit_call.new.code.items ≡ c.args.code.now.items ++ term_code (shape_in c.args.layout.now) (j.asked c.args.asked)))
    (sym (ap (primary_in c.args.layout.now) c.in-Call.is ∙ call-is c.args.layout.now c.in-Call.function _ c.in-Call.arguments)) (subst (λ x. OnOk c.emit_call.result (c.emit_call.new.code.items ≡ c.args.code.now.items ++ term_code (shape_in c.args.layout.now) (function_term c.in-Call.function (arguments_in c.args.layout.now x) c.args.asked))) c.get-in-Call.ensures c.emit_call.ensures)

pub emit_call-returns-then-more-further_arguments : goal.emit_call-returns-then-more-further_arguments
emit_call-returns-then-more-further_arguments t c =
    let f = λ (x : Expr). (elaborated c.args.layout.now x).asked c.args.asked in let o = operator_of c.args.function c.args.asked in let e = out-Arguments c.args.e.now in let t = (elaborated c.args.layout.now e.first).asked (first_asked c.args.function c.args.asked) in
    on_ok c.put.result c.put.ensures (λ put. put ∙ (ap (λ i. c.args.code.now.items ++ i ∷ []) c.push_number.ensures ∙ (ap (λ l. c.args.code.now.items ++ l) (other_code (shape_in c.args.layout.now) o t f c.as_slice-more.result.now (λ same. c.if-more-further_arguments.true (same ∙ sym (c.further_arguments.ensures c.args.asked)))) ∙ (ap (λ l. c.args.code.now.items ++ term_code (shape_in c.args.layout.now) (combined o t (map f l))) c.as_slice-more.ensures ∙ sym (ap (λ (args : List Elaborated). c.args.code.now.items ++ term_code (shape_in c.args.layout.now) (function_term c.args.function args c.args.asked)) (arguments-out c.args.layout.now c.args.e.now) ∙ ap (λ l. c.args.code.now.items ++ term_code (shape_in c.args.layout.now) (combined o t l)) (map_twice (elaborated c.args.layout.now) (argument_asked c.args.asked) e.more))))))

pub emit_call-loop-x-init : goal.emit_call-loop-x-init
emit_call-loop-x-init t c =
    let f = λ (x : Expr). (elaborated c.args.layout.now x).asked c.args.asked in let o = operator_of c.args.function c.args.asked in let e = out-Arguments c.args.e.now in let t = (elaborated c.args.layout.now e.first).asked (first_asked c.args.function c.args.asked) in
    ap (λ l. l ++ argument_code (shape_in c.args.layout.now) f c.as_slice-more.result.now) (c.in_ok-emit_expr.ensures ∙ ap (λ k. c.args.code.now.items ++ term_code (shape_in c.args.layout.now) ((elaborated c.args.layout.now e.first).asked k)) c.first_asked.ensures)

pub emit_call-loop-x-preserved : goal.emit_call-loop-x-preserved
emit_call-loop-x-preserved t c =
    let f = λ (x : Expr). (elaborated c.args.layout.now x).asked c.args.asked in let o = operator_of c.args.function c.args.asked in let e = out-Arguments c.args.e.now in let t = (elaborated c.args.layout.now e.first).asked (first_asked c.args.function c.args.asked) in
    codes_more (λ xs n. argument_code (shape_in c.args.layout.now) f xs) c.as_slice-more.result.now c.loop-x.x-index _ c.loop-x.code.items (term_code (shape_in c.args.layout.now) (f c.x-item.result)) c.emit_expr-in-loop-x.new.code.items c.x-item.result c.loop-x-test.true c.x-item.is c.loop-x.invariant (code_law (shape_in c.args.layout.now) f c.x-item.result _) c.in_ok-emit_expr-2.ensures

pub emit_call-returns : goal.emit_call-returns
emit_call-returns t c =
    let f = λ (x : Expr). (elaborated c.args.layout.now x).asked c.args.asked in let o = operator_of c.args.function c.args.asked in let e = out-Arguments c.args.e.now in let t = (elaborated c.args.layout.now e.first).asked (first_asked c.args.function c.args.asked) in
    on_ok c.put-2.result c.put-2.ensures (λ put.
    call_code (shape_in c.args.layout.now) o t f c.as_slice-more.result.now c.args.code.now.items c.loop-x.code.items c.put-2.new.code.items (c.if-more-further_arguments.false ∙ c.further_arguments.ensures c.args.asked)
    (sym (append-nil c.loop-x.code.items) ∙ (ap (λ l. c.loop-x.code.items ++ l) (sym (no_code (shape_in c.args.layout.now) f)) ∙ codes_all (λ xs n. argument_code (shape_in c.args.layout.now) f xs) c.as_slice-more.result.now c.loop-x.x-index _ c.loop-x.code.items c.loop-x-test.false c.loop-x.invariant))
    (put ∙ ap (λ i. c.loop-x.code.items ++ i ∷ []) c.function_instr.ensures)
    ∙ (ap (λ l. c.args.code.now.items ++ term_code (shape_in c.args.layout.now) (combined o t (map f l))) c.as_slice-more.ensures ∙ sym (ap (λ (args : List Elaborated). c.args.code.now.items ++ term_code (shape_in c.args.layout.now) (function_term c.args.function args c.args.asked)) (arguments-out c.args.layout.now c.args.e.now) ∙ ap (λ l. c.args.code.now.items ++ term_code (shape_in c.args.layout.now) (combined o t l)) (map_twice (elaborated c.args.layout.now) (argument_asked c.args.asked) e.more))))
