use Rattle.std.proofs.Common.{◌≡◌, ◌++◌, fold, take}
use Rattle.st_tree.specs.declared.expression.Operation.{Operation}
use Rattle.st_tree.specs.declared.expression.EqualOperator.{EqualOperator}
use Rattle.st_tree.specs.declared.expression.CompareOperator.{CompareOperator}
use Rattle.st_tree.specs.declared.expression.AddOperator.{AddOperator}
use Rattle.st_tree.specs.declared.expression.MultiplyOperator.{MultiplyOperator}
use Rattle.st_tree.specs.declared.expression.Expr.{Expr, out-Expr}
use Rattle.st_tree.specs.declared.expression.Exclusive.{Exclusive, out-Exclusive}
use Rattle.st_tree.specs.declared.expression.Conjunction.{Conjunction, out-Conjunction}
use Rattle.st_tree.specs.declared.expression.Equality.{Equality, out-Equality}
use Rattle.st_tree.specs.declared.expression.Comparison.{Comparison, out-Comparison}
use Rattle.st_tree.specs.declared.expression.Sum.{Sum, out-Sum}
use Rattle.st_tree.specs.declared.expression.Product.{Product, out-Product}
use Rattle.st_tree.specs.declared.expression.Unary.{Unary}
use Rattle.st_tree.specs.declared.expression.Arguments.{out-Arguments}
use Rattle.st_tree.proofs.ExpressionEquations.{with_operand}
use Rattle.function_blocks.specs.declared.kinds.Kind.TheVariants as k
use Rattle.st_core.specs.Core as core
use Rattle.st_core.specs.Core.{BinaryOperator}
use Rattle.st_core.specs.Codes.{term_code}
use Rattle.st_sound.specs.Shapes.{shape_in}
use Rattle.st_meaning.specs.Functions.{first_asked}
use Rattle.st_meaning.specs.Expressions.{logic, equal_operator, compare_operator, more_add, more_multiply, elaborated}
use Rattle.code_size.specs.Inner.Ranks.{exclusive_in, conjunction_in, equality_in, comparison_in, sum_in, product_in, unary_in}
use Rattle.scan_code.proofs.CallCodes.{argument_code}
use Rattle.scan_code.proofs.RowCodes.{Compares}
use Rattle.scan_code.proofs.ListCodes.{Codes}
use Rattle.scan_code.proofs.expressions.+emit.Given as goal

abbrev pub invariant-emit_expr-loop-x : goal.invariant-emit_expr-loop-x
invariant-emit_expr-loop-x l = l.code.items ≡ l.fn.code.items ++ term_code (shape_in l.layout) ((fold (λ a (x : Exclusive). logic core.Or a (exclusive_in l.layout x)) (exclusive_in l.layout (out-Expr l.e).first) (take l.x-index l.more)).asked k.Bool)

abbrev pub invariant-emit_exclusive-loop-x : goal.invariant-emit_exclusive-loop-x
invariant-emit_exclusive-loop-x l = l.code.items ≡ l.fn.code.items ++ term_code (shape_in l.layout) ((fold (λ a (x : Conjunction). logic core.Xor a (conjunction_in l.layout x)) (conjunction_in l.layout (out-Exclusive l.e).first) (take l.x-index l.more)).asked k.Bool)

abbrev pub invariant-emit_conjunction-loop-x : goal.invariant-emit_conjunction-loop-x
invariant-emit_conjunction-loop-x l = l.code.items ≡ l.fn.code.items ++ term_code (shape_in l.layout) ((fold (λ a (x : Equality). logic core.And a (equality_in l.layout x)) (equality_in l.layout (out-Conjunction l.e).first) (take l.x-index l.more)).asked k.Bool)

abbrev pub invariant-emit_equality-loop-x : goal.invariant-emit_equality-loop-x
invariant-emit_equality-loop-x l = Compares (λ (x : Operation EqualOperator Comparison). equal_operator x.operator) (λ x. comparison_in l.layout x.operand) (shape_in l.layout) (comparison_in l.layout (out-Equality l.e).first) l.more l.x-index l.at l.fn.code.items l.code.items

abbrev pub invariant-emit_comparison-loop-x : goal.invariant-emit_comparison-loop-x
invariant-emit_comparison-loop-x l = Compares (λ (x : Operation CompareOperator Sum). compare_operator x.operator) (λ x. sum_in l.layout x.operand) (shape_in l.layout) (sum_in l.layout (out-Comparison l.e).first) l.more l.x-index l.at l.fn.code.items l.code.items

abbrev pub invariant-emit_sum-loop-x : goal.invariant-emit_sum-loop-x
invariant-emit_sum-loop-x l = l.code.items ≡ l.fn.code.items ++ term_code (shape_in l.layout) ((fold (λ a (x : Operation AddOperator Product). more_add a (with_operand (product_in l.layout) x)) (product_in l.layout (out-Sum l.e).first) (take l.x-index l.more)).asked l.asked)

abbrev pub invariant-emit_product-loop-x : goal.invariant-emit_product-loop-x
invariant-emit_product-loop-x l = l.code.items ≡ l.fn.code.items ++ term_code (shape_in l.layout) ((fold (λ a (x : Operation MultiplyOperator Unary). more_multiply a (with_operand (unary_in l.layout) x)) (unary_in l.layout (out-Product l.e).first) (take l.x-index l.more)).asked l.asked)

abbrev pub invariant-emit_call-loop-x : goal.invariant-emit_call-loop-x
invariant-emit_call-loop-x l =
    let f = λ (x : Expr). (elaborated l.layout x).asked l.asked in
    Codes (λ xs n. argument_code (shape_in l.layout) f xs) l.more l.x-index ((l.fn.code.items ++ term_code (shape_in l.layout) ((elaborated l.layout (out-Arguments l.e).first).asked (first_asked l.function l.asked))) ++ argument_code (shape_in l.layout) f l.more) l.code.items
