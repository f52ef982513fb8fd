-- Nobody has to believe what stands here: it serves private functions alone.
-- Reading expressions: each part as a parser. The number is more than the tokens that are left, and `inner` reads a
-- whole expression.
use Rattle.std.specs.Prelude.{ℕ, zero, suc, List, Option, Some, None, ◌⊎◌}
use Rattle.std.proofs.Common.{inl, inr}
use Rattle.st_tree.specs.declared.token.Fixed.TheVariants as w
use Rattle.st_tree.specs.declared.declaration.PlacedName.{PlacedName}
use Rattle.st_tree.specs.declared.expression.Operation.{Operation}
use Rattle.st_tree.specs.declared.expression.EqualOperator.{EqualOperator}
use Rattle.st_tree.specs.declared.expression.CompareOperator.{CompareOperator}
use Rattle.st_tree.specs.declared.expression.AddOperator.{AddOperator}
use Rattle.st_tree.specs.declared.expression.MultiplyOperator.{MultiplyOperator}
use Rattle.st_tree.specs.declared.expression.Expr.{Expr, roll-Expr}
use Rattle.st_tree.specs.declared.expression.Exclusive.{Exclusive, roll-Exclusive}
use Rattle.st_tree.specs.declared.expression.Conjunction.{Conjunction, roll-Conjunction}
use Rattle.st_tree.specs.declared.expression.Equality.{Equality, roll-Equality}
use Rattle.st_tree.specs.declared.expression.Comparison.{Comparison, roll-Comparison}
use Rattle.st_tree.specs.declared.expression.Sum.{Sum, roll-Sum}
use Rattle.st_tree.specs.declared.expression.Product.{Product, roll-Product}
use Rattle.st_tree.specs.declared.expression.Unary.{Unary}
use Rattle.st_tree.specs.declared.expression.Unary.TheVariants as unary
use Rattle.st_tree.specs.declared.expression.Primary.{Primary}
use Rattle.st_tree.specs.declared.expression.Primary.TheVariants as primary
use Rattle.st_tree.specs.declared.expression.Arguments.{Arguments, roll-Arguments}
use Rattle.st_parser.specs.declared.bounds.Bounds.{Bounds}
use Rattle.st_parser.specs.Inner.Parsers.{Parser, refuse, ◌⨟◌, made, either, many, after, expect, place_of, name, number, entry, entry_at, sees, sees_name, sees_number, sees_some, nothing}
use Rattle.st_parser.specs.Inner.Tables.{equal_of, compare_of, add_of, multiply_of, function_of, truth_of}

-- what may stand behind a name
abbrev pub Suffix : Type 0
Suffix = Option (PlacedName ⊎ Expr)

abbrev pub named : PlacedName × Suffix → Primary
named (tag, None) = primary.Tag tag
named (block, Some (inl field)) = primary.Field block field
named (array, Some (inr index)) = primary.Element array index

module _ (turns : ℕ) (inner : Parser Expr) where
  -- index "]"
  abbrev pub index : Parser Expr
  index = made (λ x. x.0) (inner ⨟ expect w.CloseBracket)

  abbrev pub suffix : Parser Suffix
  suffix =
      either (sees w.Dot) (made (λ f. Some (inl f)) (after w.Dot name))
      (either (sees w.OpenBracket) (made (λ i. Some (inr i)) (after w.OpenBracket index)) (nothing None))

  -- a name with what stands behind it
  abbrev pub named_primary : Parser Primary
  named_primary = made named (name ⨟ suffix)

  abbrev pub bracketed : Parser Primary
  bracketed = made (λ x. primary.Bracketed x.0 x.1.0) (place_of w.OpenParen ⨟ inner ⨟ expect w.CloseParen)

  abbrev pub next_argument : Parser Expr
  next_argument = after w.Comma inner

  abbrev pub more_arguments : Parser (List Expr)
  more_arguments = many (sees w.Comma) next_argument turns

  abbrev pub arguments : Parser Arguments
  arguments = made (λ x. roll-Arguments (record { first = x.0; more = x.1 })) (inner ⨟ more_arguments)

  abbrev pub call : Parser Primary
  call = made (λ x. primary.Call x.0.0 x.0.1 x.1.0)
      (entry_at function_of ⨟ after w.OpenParen (arguments ⨟ expect w.CloseParen))

  unfoldable pub primary_of : Parser Primary
  primary_of =
      either sees_number (made (λ x. primary.Number x.0 x.1) number)
      (either (sees_some truth_of) (made (λ x. primary.Truth x.0 x.1) (entry_at truth_of))
      (either sees_name named_primary
      (either (sees w.OpenParen) bracketed call)))

  unfoldable pub unary_of : Parser Unary
  unary_of =
      either (sees w.Minus) (made (λ x. unary.Minus x.0 x.1) (place_of w.Minus ⨟ primary_of))
      (either (sees w.Not) (made (λ x. unary.Not x.0 x.1) (place_of w.Not ⨟ primary_of))
      (made unary.Plain primary_of))

  abbrev pub factor : Parser (Operation MultiplyOperator Unary)
  factor = made (λ x. record { operator = x.0; operand = x.1 }) (entry multiply_of ⨟ unary_of)

  abbrev pub more_factors : Parser (List (Operation MultiplyOperator Unary))
  more_factors = many (sees_some multiply_of) factor turns

  unfoldable pub product_of : Parser Product
  product_of = made (λ x. roll-Product (record { first = x.0; more = x.1 })) (unary_of ⨟ more_factors)

  abbrev pub term : Parser (Operation AddOperator Product)
  term = made (λ x. record { operator = x.0; operand = x.1 }) (entry add_of ⨟ product_of)

  abbrev pub more_terms : Parser (List (Operation AddOperator Product))
  more_terms = many (sees_some add_of) term turns

  unfoldable pub sum_of : Parser Sum
  sum_of = made (λ x. roll-Sum (record { first = x.0; more = x.1 })) (product_of ⨟ more_terms)

  abbrev pub compared_part : Parser (Operation CompareOperator Sum)
  compared_part = made (λ x. record { operator = x.0; operand = x.1 }) (entry compare_of ⨟ sum_of)

  abbrev pub more_compared : Parser (List (Operation CompareOperator Sum))
  more_compared = many (sees_some compare_of) compared_part turns

  unfoldable pub comparison_of : Parser Comparison
  comparison_of = made (λ x. roll-Comparison (record { first = x.0; more = x.1 })) (sum_of ⨟ more_compared)

  abbrev pub equated_part : Parser (Operation EqualOperator Comparison)
  equated_part = made (λ x. record { operator = x.0; operand = x.1 }) (entry equal_of ⨟ comparison_of)

  abbrev pub more_equated : Parser (List (Operation EqualOperator Comparison))
  more_equated = many (sees_some equal_of) equated_part turns

  unfoldable pub equality_of : Parser Equality
  equality_of = made (λ x. roll-Equality (record { first = x.0; more = x.1 })) (comparison_of ⨟ more_equated)

  abbrev pub conjunct : Parser Equality
  conjunct = after w.And equality_of

  abbrev pub more_conjuncts : Parser (List Equality)
  more_conjuncts = many (sees w.And) conjunct turns

  unfoldable pub conjunction_of : Parser Conjunction
  conjunction_of = made (λ x. roll-Conjunction (record { first = x.0; more = x.1 })) (equality_of ⨟ more_conjuncts)

  abbrev pub exclusive_part : Parser Conjunction
  exclusive_part = after w.Xor conjunction_of

  abbrev pub more_exclusives : Parser (List Conjunction)
  more_exclusives = many (sees w.Xor) exclusive_part turns

  unfoldable pub exclusive_of : Parser Exclusive
  exclusive_of = made (λ x. roll-Exclusive (record { first = x.0; more = x.1 })) (conjunction_of ⨟ more_exclusives)

  abbrev pub alternative : Parser Exclusive
  alternative = after w.Or exclusive_of

  abbrev pub more_alternatives : Parser (List Exclusive)
  more_alternatives = many (sees w.Or) alternative turns

  unfoldable pub whole_of : Parser Expr
  whole_of = made (λ x. roll-Expr (record { first = x.0; more = x.1 })) (exclusive_of ⨟ more_alternatives)

-- a whole expression, nested in fewer levels than this
unfoldable pub expr_at : ℕ → Parser Expr
expr_at zero = refuse
expr_at (suc levels) = whole_of (suc levels) (expr_at levels)

-- a rule within these bounds
abbrev pub within : {A : Type 0} → (ℕ → Parser Expr → Parser A) → Bounds → Parser A
within rule bounds = rule bounds.turns (expr_at bounds.levels)
