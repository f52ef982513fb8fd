-- What a function over expressions makes of each part of the grammar, where the parts inside have been replaced by
-- what it made of them: one record of ten steps, and the function that it gives. What is spelled, how deep a tree nests,
-- its types and what it is in the core are such records.
use Rattle.std.specs.Prelude.{List}
use Rattle.st_tree.specs.declared.expression.Operation.{Operation}
use Rattle.st_tree.specs.declared.expression.EqualOperator.{EqualOperator}
use Rattle.st_tree.specs.declared.expression.CompareOperator.{CompareOperator}
use Rattle.st_tree.specs.declared.expression.AddOperator.{AddOperator}
use Rattle.st_tree.specs.declared.expression.MultiplyOperator.{MultiplyOperator}
use Rattle.st_tree.specs.declared.expression.Primary.{Primary, fold-Primary}
use Rattle.st_tree.specs.declared.expression.Unary.{Unary, fold-Unary}
use Rattle.st_tree.specs.declared.expression.Arguments.{Arguments, fold-Arguments}
use Rattle.st_tree.specs.declared.expression.Comparison.{Comparison, fold-Comparison}
use Rattle.st_tree.specs.declared.expression.Conjunction.{Conjunction, fold-Conjunction}
use Rattle.st_tree.specs.declared.expression.Equality.{Equality, fold-Equality}
use Rattle.st_tree.specs.declared.expression.Exclusive.{Exclusive, fold-Exclusive}
use Rattle.st_tree.specs.declared.expression.Expr.{Expr, fold-Expr}
use Rattle.st_tree.specs.declared.expression.Product.{Product, fold-Product}
use Rattle.st_tree.specs.declared.expression.Sum.{Sum, fold-Sum}
use Rattle.st_tree.specs.declared.expression.Primary.TheOpen.{Primary-F, Unary-F, Arguments-F, Comparison-F, Conjunction-F, Equality-F, Exclusive-F, Expr-F, Product-F, Sum-F}

-- A primary whose parts have been replaced. P is what is made of a primary, B of the arguments of a function, and A of
-- every other expression.
abbrev pub PrimaryPart : Type 0 → Type 0 → Type 0 → Type 0
PrimaryPart P A B = Primary-F P A B A A A A A A A

-- a primary with a sign or NOT or without, whose primary has been replaced
abbrev pub UnaryPart : Type 0 → Type 0 → Type 0 → Type 0
UnaryPart P A B = Unary-F P A B A A A A A A A

-- The ten steps. Where operands stand in a row, a step has the first, and the others with what joins them.
pub record ExpressionSteps (P A B : Type 0) : Type 0 where
  pub primary : PrimaryPart P A B → P
  pub unary : UnaryPart P A B → A
  pub product : A → List (Operation MultiplyOperator A) → A
  pub sum : A → List (Operation AddOperator A) → A
  pub comparison : A → List (Operation CompareOperator A) → A
  pub equality : A → List (Operation EqualOperator A) → A
  -- AND
  pub conjunction : A → List A → A
  -- XOR
  pub exclusive : A → List A → A
  -- OR
  pub disjunction : A → List A → A
  -- the arguments of a function
  pub arguments : A → List A → B

-- the function over each of the ten types
module _ {P A B : Type 0} (s : ExpressionSteps P A B) where
  -- the step of the arguments of a function
  abbrev pub arguments_step : Arguments-F P A B A A A A A A A → B
  arguments_step x = s.arguments x.first x.more

  -- the step of operands joined by <, >, <= or >=
  abbrev pub comparison_step : Comparison-F P A B A A A A A A A → A
  comparison_step x = s.comparison x.first x.more

  -- the step of operands joined by AND
  abbrev pub conjunction_step : Conjunction-F P A B A A A A A A A → A
  conjunction_step x = s.conjunction x.first x.more

  -- the step of operands joined by = or <>
  abbrev pub equality_step : Equality-F P A B A A A A A A A → A
  equality_step x = s.equality x.first x.more

  -- the step of operands joined by XOR
  abbrev pub exclusive_step : Exclusive-F P A B A A A A A A A → A
  exclusive_step x = s.exclusive x.first x.more

  -- the step of operands joined by OR
  abbrev pub expr_step : Expr-F P A B A A A A A A A → A
  expr_step x = s.disjunction x.first x.more

  -- the step of factors
  abbrev pub product_step : Product-F P A B A A A A A A A → A
  product_step x = s.product x.first x.more

  -- the step of terms
  abbrev pub sum_step : Sum-F P A B A A A A A A A → A
  sum_step x = s.sum x.first x.more

  -- a primary
  unfoldable pub fold_primary : Primary → P
  fold_primary = fold-Primary P A B A A A A A A A s.primary s.unary
      arguments_step comparison_step conjunction_step equality_step exclusive_step expr_step product_step sum_step

  -- a primary with a sign or NOT, or without
  unfoldable pub fold_unary : Unary → A
  fold_unary = fold-Unary P A B A A A A A A A s.primary s.unary
      arguments_step comparison_step conjunction_step equality_step exclusive_step expr_step product_step sum_step

  -- operands joined by *, / and MOD
  unfoldable pub fold_product : Product → A
  fold_product = fold-Product P A B A A A A A A A s.primary s.unary
      arguments_step comparison_step conjunction_step equality_step exclusive_step expr_step product_step sum_step

  -- operands joined by + and -
  unfoldable pub fold_sum : Sum → A
  fold_sum = fold-Sum P A B A A A A A A A s.primary s.unary
      arguments_step comparison_step conjunction_step equality_step exclusive_step expr_step product_step sum_step

  -- operands joined by <, >, <= and >=
  unfoldable pub fold_comparison : Comparison → A
  fold_comparison = fold-Comparison P A B A A A A A A A s.primary s.unary
      arguments_step comparison_step conjunction_step equality_step exclusive_step expr_step product_step sum_step

  -- operands joined by = and <>
  unfoldable pub fold_equality : Equality → A
  fold_equality = fold-Equality P A B A A A A A A A s.primary s.unary
      arguments_step comparison_step conjunction_step equality_step exclusive_step expr_step product_step sum_step

  -- operands joined by AND
  unfoldable pub fold_conjunction : Conjunction → A
  fold_conjunction = fold-Conjunction P A B A A A A A A A s.primary s.unary
      arguments_step comparison_step conjunction_step equality_step exclusive_step expr_step product_step sum_step

  -- operands joined by XOR
  unfoldable pub fold_exclusive : Exclusive → A
  fold_exclusive = fold-Exclusive P A B A A A A A A A s.primary s.unary
      arguments_step comparison_step conjunction_step equality_step exclusive_step expr_step product_step sum_step

  -- a whole expression: operands joined by OR
  unfoldable pub fold_expr : Expr → A
  fold_expr = fold-Expr P A B A A A A A A A s.primary s.unary
      arguments_step comparison_step conjunction_step equality_step exclusive_step expr_step product_step sum_step

  -- the arguments of a function
  unfoldable pub fold_arguments : Arguments → B
  fold_arguments = fold-Arguments P A B A A A A A A A s.primary s.unary
      arguments_step comparison_step conjunction_step equality_step exclusive_step expr_step product_step sum_step
