-- The grammar of expressions (IEC 61131-3:2013, 7.3.2): what each part spells, where its parts spell these pieces.
use Rattle.std.specs.Prelude.{Bool, true, false, List}
use Rattle.st_tree.specs.declared.token.Fixed.{Fixed}
use Rattle.st_tree.specs.declared.token.Fixed.TheVariants as w
use Rattle.st_tree.specs.declared.expression.Operation.{Operation}
use Rattle.st_tree.specs.declared.expression.EqualOperator.{EqualOperator}
use Rattle.st_tree.specs.declared.expression.EqualOperator.TheVariants as equal
use Rattle.st_tree.specs.declared.expression.CompareOperator.{CompareOperator}
use Rattle.st_tree.specs.declared.expression.CompareOperator.TheVariants as compare
use Rattle.st_tree.specs.declared.expression.AddOperator.{AddOperator}
use Rattle.st_tree.specs.declared.expression.AddOperator.TheVariants as add
use Rattle.st_tree.specs.declared.expression.MultiplyOperator.{MultiplyOperator}
use Rattle.st_tree.specs.declared.expression.MultiplyOperator.TheVariants as multiply
use Rattle.st_tree.specs.declared.expression.Function.{Function}
use Rattle.st_tree.specs.declared.expression.Function.TheVariants as function
use Rattle.st_tree.specs.declared.expression.Expr.{Expr}
use Rattle.st_tree.specs.declared.expression.Primary.TheOpen.{Primary-F, Unary-F}
use Rattle.st_tree.specs.ExpressionFolds.{ExpressionSteps, PrimaryPart, UnaryPart, fold_expr}
use Rattle.st_tree.specs.Listed.{listed}
use Rattle.st_tree.specs.Pieces.{Piece, ◌·◌, word, word_at, number_at, name, each, separated}

-- = and <>
abbrev pub equal_word : EqualOperator → Fixed
equal_word equal.Equal = w.Equals
equal_word equal.Unequal = w.Unequal

-- <, >, <= and >=
abbrev pub compare_word : CompareOperator → Fixed
compare_word compare.Less = w.Less
compare_word compare.Greater = w.Greater
compare_word compare.AtMost = w.AtMost
compare_word compare.AtLeast = w.AtLeast

-- + and -
abbrev pub add_word : AddOperator → Fixed
add_word add.Add = w.Plus
add_word add.Subtract = w.Minus

-- *, / and MOD
abbrev pub multiply_word : MultiplyOperator → Fixed
multiply_word multiply.Multiply = w.Times
multiply_word multiply.Divide = w.Divide
multiply_word multiply.Modulo = w.Mod

-- the reserved word of a function
abbrev pub function_word : Function → Fixed
function_word function.Abs = w.Abs
function_word function.Min = w.Min
function_word function.Max = w.Max
function_word function.Limit = w.Limit
function_word function.Sel = w.Sel
function_word function.IntToDint = w.IntToDint
function_word function.DintToInt = w.DintToInt

-- TRUE and FALSE
abbrev pub truth_word : Bool → Fixed
truth_word true = w.True
truth_word false = w.False

-- an operator and its right operand
abbrev pub operation : {O : Type 0} → (O → Fixed) → Operation O (List Piece) → List Piece
operation written part = word (written part.operator) · part.operand

-- an operand, and any number of others, each behind its operator
abbrev pub joined : {O : Type 0} → (O → Fixed) → List Piece → List (Operation O (List Piece)) → List Piece
joined written first more = first · each (operation written) more

-- one or more parts with this word or symbol between
abbrev pub with_between : Fixed → List Piece → List (List Piece) → List Piece
with_between w first more = separated w (λ part. part) (listed first more)

-- primary = number | TRUE | FALSE | name [ "." name ] | name "[" expr "]" | "(" expr ")"
--         | function "(" expr { "," expr } ")"
abbrev pub primary : PrimaryPart (List Piece) (List Piece) (List Piece) → List Piece
primary (Primary-F.Number n place) = number_at n place
primary (Primary-F.Truth value place) = word_at (truth_word value) place
primary (Primary-F.Tag tag) = name tag
primary (Primary-F.Field block field) = name block · word w.Dot · name field
primary (Primary-F.Element array index) = name array · word w.OpenBracket · index · word w.CloseBracket
primary (Primary-F.Bracketed place inside) = word_at w.OpenParen place · inside · word w.CloseParen
primary (Primary-F.Call function place arguments) =
    word_at (function_word function) place · word w.OpenParen · arguments · word w.CloseParen

-- unary = [ "-" | NOT ] primary
abbrev pub unary : UnaryPart (List Piece) (List Piece) (List Piece) → List Piece
unary (Unary-F.Plain primary) = primary
unary (Unary-F.Minus place primary) = word_at w.Minus place · primary
unary (Unary-F.Not place primary) = word_at w.Not place · primary

-- what each part of an expression spells, where its parts spell these pieces
abbrev pub spelled : ExpressionSteps (List Piece) (List Piece) (List Piece)
spelled = record {
  primary = primary;
  unary = unary;
  -- product = unary { ( "*" | "/" | MOD ) unary }
  product = joined multiply_word;
  -- sum = product { ( "+" | "-" ) product }
  sum = joined add_word;
  -- less = sum { ( "<" | ">" | "<=" | ">=" ) sum }
  comparison = joined compare_word;
  -- equal = less { ( "=" | "<>" ) less }
  equality = joined equal_word;
  -- and = equal { ( AND | "&" ) equal }; `&` is the token AND
  conjunction = with_between w.And;
  -- xor = and { XOR and }
  exclusive = with_between w.Xor;
  -- expr = xor { OR xor }
  disjunction = with_between w.Or;
  -- expr { "," expr }
  arguments = with_between w.Comma;
}

-- what a whole expression spells
unfoldable pub spell_expr : Expr → List Piece
spell_expr = fold_expr spelled
