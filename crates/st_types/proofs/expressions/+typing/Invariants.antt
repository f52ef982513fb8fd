use Rattle.std.proofs.Common.{◌≡◌, map, take, ◌∷◌}
use Rattle.st_tree.specs.declared.expression.Expr.{out-Expr}
use Rattle.st_tree.specs.declared.expression.Exclusive.{out-Exclusive}
use Rattle.st_tree.specs.declared.expression.Conjunction.{out-Conjunction}
use Rattle.st_tree.specs.declared.expression.Equality.{out-Equality}
use Rattle.st_tree.specs.declared.expression.Comparison.{out-Comparison}
use Rattle.st_tree.specs.declared.expression.Sum.{out-Sum}
use Rattle.st_tree.specs.declared.expression.Product.{out-Product}
use Rattle.st_tree.specs.declared.expression.Arguments.{out-Arguments}
use Rattle.st_tree.specs.ExpressionFolds.{fold_expr, fold_exclusive, fold_conjunction, fold_equality, fold_comparison, fold_sum, fold_product, fold_unary}
use Rattle.st_types.specs.Inner.Summaries.{checked_of}
use Rattle.st_types.proofs.expressions.+typing.Given as goal
use Rattle.st_tree.specs.Typing.Faults.{first_of}
use Rattle.st_tree.specs.Typing.Expressions.{expression_types}
use Rattle.st_tree.specs.Typing.Operands.{chain, both_bool, both_integer, compared_alike, compared_integers, faults_in}

abbrev pub invariant-type_expression-loop-right : goal.invariant-type_expression-loop-right
invariant-type_expression-loop-right l = l.left ≡ checked_of (chain both_bool (fold_exclusive (expression_types l.tags) (out-Expr l.e).first) (map (fold_exclusive (expression_types l.tags)) (take l.right-index l.right-items)))

abbrev pub invariant-type_exclusive-loop-right : goal.invariant-type_exclusive-loop-right
invariant-type_exclusive-loop-right l = l.left ≡ checked_of (chain both_bool (fold_conjunction (expression_types l.tags) (out-Exclusive l.e).first) (map (fold_conjunction (expression_types l.tags)) (take l.right-index l.right-items)))

abbrev pub invariant-type_conjunction-loop-right : goal.invariant-type_conjunction-loop-right
invariant-type_conjunction-loop-right l = l.left ≡ checked_of (chain both_bool (fold_equality (expression_types l.tags) (out-Conjunction l.e).first) (map (fold_equality (expression_types l.tags)) (take l.right-index l.right-items)))

abbrev pub invariant-type_equality-loop-right : goal.invariant-type_equality-loop-right
invariant-type_equality-loop-right l = l.left ≡ checked_of (chain compared_alike (fold_comparison (expression_types l.tags) (out-Equality l.e).first) (map (λ right. fold_comparison (expression_types l.tags) right.operand) (take l.right-index l.right-items)))

abbrev pub invariant-type_comparison-loop-right : goal.invariant-type_comparison-loop-right
invariant-type_comparison-loop-right l = l.left ≡ checked_of (chain compared_integers (fold_sum (expression_types l.tags) (out-Comparison l.e).first) (map (λ right. fold_sum (expression_types l.tags) right.operand) (take l.right-index l.right-items)))

abbrev pub invariant-type_sum-loop-right : goal.invariant-type_sum-loop-right
invariant-type_sum-loop-right l = l.left ≡ checked_of (chain both_integer (fold_product (expression_types l.tags) (out-Sum l.e).first) (map (λ right. fold_product (expression_types l.tags) right.operand) (take l.right-index l.right-items)))

abbrev pub invariant-type_product-loop-right : goal.invariant-type_product-loop-right
invariant-type_product-loop-right l = l.left ≡ checked_of (chain both_integer (fold_unary (expression_types l.tags) (out-Product l.e).first) (map (λ right. fold_unary (expression_types l.tags) right.operand) (take l.right-index l.right-items)))

abbrev pub invariant-type_call-loop-argument : goal.invariant-type_call-loop-argument
invariant-type_call-loop-argument l = l.fault ≡ first_of (faults_in (fold_expr (expression_types l.tags) (out-Arguments l.e).first ∷ map (fold_expr (expression_types l.tags)) (take l.argument-index l.more)))
