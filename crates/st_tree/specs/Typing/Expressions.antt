-- The types of expressions (IEC 61131-3:2013, 7.3.2).
use Rattle.std.specs.Prelude.{ℕ, List, [], ◌∷◌, Some, None}
use Rattle.function_blocks.specs.declared.kinds.Kind.TheVariants as kind
use Rattle.st_tree.specs.declared.declaration.Integer.{Integer}
use Rattle.st_tree.specs.declared.declaration.Sign.TheVariants as sign
use Rattle.st_tree.specs.declared.expression.Expr.{Expr}
use Rattle.st_tree.specs.declared.expression.Primary.TheOpen.{Primary-F, Unary-F}
use Rattle.st_tree.specs.declared.tag.Tag.{Tag}
use Rattle.st_tree.specs.Listed.{operands}
use Rattle.st_tree.specs.Tags.{tag_named}
use Rattle.st_tree.specs.ExpressionFolds.{PrimaryPart, UnaryPart, ExpressionSteps, fold_expr}
use Rattle.st_tree.specs.Typing.Operands.{Typed, Free, Typing, found, asked, integers, chain, both_bool, both_integer, compared_alike, compared_integers}
use Rattle.st_tree.specs.Typing.Names.{tag_value, field_value, element_value}
use Rattle.st_tree.specs.Typing.Functions.{called}

-- a primary: a number and its place, which a minus sign before it makes another literal; or anything else
pub data PrimaryTyping : Type 0 where
  NumberToken : ℕ → ℕ → PrimaryTyping
  Other : Typing → PrimaryTyping

-- a literal without a sign
abbrev pub plain_literal : ℕ → ℕ → Integer
plain_literal number place = record { sign = None; number = number; place = place }

-- a literal right behind a minus sign, which stands at this place
abbrev pub negated_literal : ℕ → ℕ → ℕ → Integer
negated_literal at number place = record { sign = Some (sign.Minus, at); number = number; place = place }

-- what is found of a primary; brackets keep what is found inside, and begin at another place
abbrev pub primary_typing : List Tag → PrimaryPart PrimaryTyping Typing (List Typing) → PrimaryTyping
primary_typing tags (Primary-F.Number number place) = NumberToken number place
primary_typing tags (Primary-F.Truth value place) = Other (found place (Typed kind.Bool))
primary_typing tags (Primary-F.Tag n) = Other (found n.place (tag_value n (tag_named tags n.name)))
primary_typing tags (Primary-F.Field n field) = Other (found n.place (field_value n field (tag_named tags n.name)))
primary_typing tags (Primary-F.Element n index) = Other (found n.place (element_value n index (tag_named tags n.name)))
primary_typing tags (Primary-F.Bracketed place inside) = Other (found place inside.outcome)
primary_typing tags (Primary-F.Call f place arguments) = Other (found place (called f place arguments))

-- a primary without a sign
abbrev pub unsigned : PrimaryTyping → Typing
unsigned (NumberToken number place) = found place (Free (plain_literal number place ∷ []))
unsigned (Other part) = part

-- a primary behind a minus sign, which stands at this place: an integer
abbrev pub negated : ℕ → PrimaryTyping → Typing
negated at (NumberToken number place) = found at (Free (negated_literal at number place ∷ []))
negated at (Other part) = found at (integers (part ∷ []))

-- what is found of a primary with a sign, with NOT or with neither; NOT takes a BOOL
abbrev pub unary_typing : UnaryPart PrimaryTyping Typing (List Typing) → Typing
unary_typing (Unary-F.Plain primary) = unsigned primary
unary_typing (Unary-F.Minus place primary) = negated place primary
unary_typing (Unary-F.Not place primary) = found place (asked kind.Bool (unsigned primary))

-- the typing of each part of an expression, under these tags
abbrev pub expression_types : List Tag → ExpressionSteps PrimaryTyping Typing (List Typing)
expression_types tags = record {
  primary = primary_typing tags;
  unary = unary_typing;
  product = λ first more. chain both_integer first (operands more);
  sum = λ first more. chain both_integer first (operands more);
  comparison = λ first more. chain compared_integers first (operands more);
  equality = λ first more. chain compared_alike first (operands more);
  conjunction = chain both_bool;
  exclusive = chain both_bool;
  disjunction = chain both_bool;
  arguments = λ first more. first ∷ more;
}

-- the typing of a whole expression
abbrev pub typing_of : List Tag → Expr → Typing
typing_of tags = fold_expr (expression_types tags)
