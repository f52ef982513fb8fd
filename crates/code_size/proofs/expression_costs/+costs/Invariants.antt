use Rattle.std.proofs.Common.{◌+◌, ◌≡◌, List, fold, take}
use Rattle.function_blocks.specs.declared.kinds.Kind.{Kind}
use Rattle.st_tree.specs.declared.expression.Operation.{Operation}
use Rattle.st_tree.specs.declared.expression.EqualOperator.{EqualOperator}
use Rattle.st_tree.specs.declared.expression.CompareOperator.{CompareOperator}
use Rattle.st_tree.specs.declared.expression.AddOperator.{AddOperator}
use Rattle.st_tree.specs.declared.expression.MultiplyOperator.{MultiplyOperator}
use Rattle.st_tree.specs.declared.expression.Expr.{Expr, out-Expr}
use Rattle.st_tree.specs.declared.expression.Exclusive.{Exclusive, out-Exclusive}
use Rattle.st_tree.specs.declared.expression.Conjunction.{Conjunction, out-Conjunction}
use Rattle.st_tree.specs.declared.expression.Equality.{Equality, out-Equality}
use Rattle.st_tree.specs.declared.expression.Comparison.{Comparison, out-Comparison}
use Rattle.st_tree.specs.declared.expression.Sum.{Sum, out-Sum}
use Rattle.st_tree.specs.declared.expression.Product.{Product, out-Product}
use Rattle.st_tree.specs.declared.expression.Unary.{Unary}
use Rattle.st_tree.specs.declared.expression.Arguments.{out-Arguments}
use Rattle.st_tree.specs.declared.tag.Tag.{Tag}
use Rattle.st_tree.proofs.ExpressionEquations.{with_operand}
use Rattle.st_core.specs.Core as core
use Rattle.st_core.specs.Costs.{term_cost}
use Rattle.st_meaning.specs.Functions.{first_asked}
use Rattle.st_meaning.specs.Expressions.{logic, more_equal, more_compare, more_add, more_multiply, elaborated}
use Rattle.code_size.specs.Limits.{limited}
use Rattle.code_size.specs.Inner.Ranks.{exclusive_in, conjunction_in, equality_in, comparison_in, sum_in, product_in, unary_in}
use Rattle.code_size.proofs.FunctionCosts.{argument_cost, cost_law}
use Rattle.code_size.proofs.Countings.{Counts}
use Rattle.code_size.proofs.expression_costs.+costs.Given as goal

abbrev pub invariant-cost_of_expr-loop-x : goal.invariant-cost_of_expr-loop-x
invariant-cost_of_expr-loop-x l = (ts : List Tag) → (kind : Kind) → l.cost ≡ limited (term_cost ((fold (λ a (x : Exclusive). logic core.Or a (exclusive_in ts x)) (exclusive_in ts (out-Expr l.e).first) (take l.x-index l.more)).asked kind))

abbrev pub invariant-cost_of_exclusive-loop-x : goal.invariant-cost_of_exclusive-loop-x
invariant-cost_of_exclusive-loop-x l = (ts : List Tag) → (kind : Kind) → l.cost ≡ limited (term_cost ((fold (λ a (x : Conjunction). logic core.Xor a (conjunction_in ts x)) (conjunction_in ts (out-Exclusive l.e).first) (take l.x-index l.more)).asked kind))

abbrev pub invariant-cost_of_conjunction-loop-x : goal.invariant-cost_of_conjunction-loop-x
invariant-cost_of_conjunction-loop-x l = (ts : List Tag) → (kind : Kind) → l.cost ≡ limited (term_cost ((fold (λ a (x : Equality). logic core.And a (equality_in ts x)) (equality_in ts (out-Conjunction l.e).first) (take l.x-index l.more)).asked kind))

abbrev pub invariant-cost_of_equality-loop-x : goal.invariant-cost_of_equality-loop-x
invariant-cost_of_equality-loop-x l = (ts : List Tag) → (kind : Kind) → l.cost ≡ limited (term_cost ((fold (λ a (x : Operation EqualOperator Comparison). more_equal a (with_operand (comparison_in ts) x)) (comparison_in ts (out-Equality l.e).first) (take l.x-index l.more)).asked kind))

abbrev pub invariant-cost_of_comparison-loop-x : goal.invariant-cost_of_comparison-loop-x
invariant-cost_of_comparison-loop-x l = (ts : List Tag) → (kind : Kind) → l.cost ≡ limited (term_cost ((fold (λ a (x : Operation CompareOperator Sum). more_compare a (with_operand (sum_in ts) x)) (sum_in ts (out-Comparison l.e).first) (take l.x-index l.more)).asked kind))

abbrev pub invariant-cost_of_sum-loop-x : goal.invariant-cost_of_sum-loop-x
invariant-cost_of_sum-loop-x l = (ts : List Tag) → (kind : Kind) → l.cost ≡ limited (term_cost ((fold (λ a (x : Operation AddOperator Product). more_add a (with_operand (product_in ts) x)) (product_in ts (out-Sum l.e).first) (take l.x-index l.more)).asked kind))

abbrev pub invariant-cost_of_product-loop-x : goal.invariant-cost_of_product-loop-x
invariant-cost_of_product-loop-x l = (ts : List Tag) → (kind : Kind) → l.cost ≡ limited (term_cost ((fold (λ a (x : Operation MultiplyOperator Unary). more_multiply a (with_operand (unary_in ts) x)) (unary_in ts (out-Product l.e).first) (take l.x-index l.more)).asked kind))

abbrev pub invariant-cost_of_arguments-loop-x : goal.invariant-cost_of_arguments-loop-x
invariant-cost_of_arguments-loop-x l = (ts : List Tag) → (kind : Kind) → Counts (argument_cost (λ (x : Expr). (elaborated ts x).asked kind)) (λ (x : Expr). term_cost ((elaborated ts x).asked kind)) (cost_law (λ (x : Expr). (elaborated ts x).asked kind)) l.more l.x-index (term_cost ((elaborated ts (out-Arguments l.e).first).asked (first_asked l.function kind)) + argument_cost (λ (x : Expr). (elaborated ts x).asked kind) l.more) l.cost
