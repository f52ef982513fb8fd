-- Nobody has to believe what stands here: it serves the compiler alone.
-- What the parts of an expression are in the core, by their ranks.
use Rattle.std.specs.Prelude.{List}
use Rattle.st_tree.specs.declared.expression.Primary.{Primary}
use Rattle.st_tree.specs.declared.expression.Unary.{Unary}
use Rattle.st_tree.specs.declared.expression.Arguments.{Arguments}
use Rattle.st_tree.specs.declared.expression.Comparison.{Comparison}
use Rattle.st_tree.specs.declared.expression.Conjunction.{Conjunction}
use Rattle.st_tree.specs.declared.expression.Equality.{Equality}
use Rattle.st_tree.specs.declared.expression.Exclusive.{Exclusive}
use Rattle.st_tree.specs.declared.expression.Product.{Product}
use Rattle.st_tree.specs.declared.expression.Sum.{Sum}
use Rattle.st_tree.specs.declared.tag.Tag.{Tag}
use Rattle.st_tree.specs.ExpressionFolds.{fold_primary, fold_unary, fold_product, fold_sum, fold_comparison, fold_equality, fold_conjunction, fold_exclusive, fold_arguments}
use Rattle.st_meaning.specs.Expressions.{Elaborated, expression_parts}

-- operands joined by XOR
abbrev pub exclusive_in : List Tag → Exclusive → Elaborated
exclusive_in tags = fold_exclusive (expression_parts tags)

-- operands joined by AND
abbrev pub conjunction_in : List Tag → Conjunction → Elaborated
conjunction_in tags = fold_conjunction (expression_parts tags)

-- operands joined by = and <>
abbrev pub equality_in : List Tag → Equality → Elaborated
equality_in tags = fold_equality (expression_parts tags)

-- operands joined by <, >, <= and >=
abbrev pub comparison_in : List Tag → Comparison → Elaborated
comparison_in tags = fold_comparison (expression_parts tags)

-- operands joined by + and -
abbrev pub sum_in : List Tag → Sum → Elaborated
sum_in tags = fold_sum (expression_parts tags)

-- operands joined by *, / and MOD
abbrev pub product_in : List Tag → Product → Elaborated
product_in tags = fold_product (expression_parts tags)

-- a primary with a sign or NOT, or without
abbrev pub unary_in : List Tag → Unary → Elaborated
unary_in tags = fold_unary (expression_parts tags)

-- a primary
abbrev pub primary_in : List Tag → Primary → Elaborated
primary_in tags = fold_primary (expression_parts tags)

-- the arguments of a function
abbrev pub arguments_in : List Tag → Arguments → List Elaborated
arguments_in tags = fold_arguments (expression_parts tags)
