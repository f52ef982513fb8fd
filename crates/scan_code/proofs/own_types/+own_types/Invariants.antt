use Rattle.std.proofs.Common.{◌≡◌, fold, take}
use Rattle.st_tree.specs.declared.expression.Operation.{Operation}
use Rattle.st_tree.specs.declared.expression.AddOperator.{AddOperator}
use Rattle.st_tree.specs.declared.expression.MultiplyOperator.{MultiplyOperator}
use Rattle.st_tree.specs.declared.expression.Expr.{Expr}
use Rattle.st_tree.specs.declared.expression.Sum.{out-Sum}
use Rattle.st_tree.specs.declared.expression.Product.{Product, out-Product}
use Rattle.st_tree.specs.declared.expression.Unary.{Unary}
use Rattle.st_tree.specs.declared.expression.Arguments.{out-Arguments}
use Rattle.st_tree.proofs.ExpressionEquations.{with_operand}
use Rattle.st_meaning.specs.Functions.{first_own}
use Rattle.st_meaning.specs.Expressions.{common, more_add, more_multiply, elaborated}
use Rattle.code_size.specs.Inner.Ranks.{product_in, unary_in}
use Rattle.scan_code.proofs.own_types.+own_types.Given as goal

abbrev pub invariant-type_of_sum-loop-x : goal.invariant-type_of_sum-loop-x
invariant-type_of_sum-loop-x l = l.own ≡ (fold (λ a (x : Operation AddOperator Product). more_add a (with_operand (product_in l.layout) x)) (product_in l.layout (out-Sum l.e).first) (take l.x-index l.more)).own

abbrev pub invariant-type_of_product-loop-x : goal.invariant-type_of_product-loop-x
invariant-type_of_product-loop-x l = l.own ≡ (fold (λ a (x : Operation MultiplyOperator Unary). more_multiply a (with_operand (unary_in l.layout) x)) (unary_in l.layout (out-Product l.e).first) (take l.x-index l.more)).own

abbrev pub invariant-type_of_call-loop-x : goal.invariant-type_of_call-loop-x
invariant-type_of_call-loop-x l = l.own ≡ fold (λ own (x : Expr). common own (elaborated l.layout x).own) (first_own l.fn.function (elaborated l.layout (out-Arguments l.e).first).own) (take l.x-index l.more)
