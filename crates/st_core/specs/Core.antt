-- The core language: a program as what it does. Operands are joined in pairs, brackets are gone, and each type is
-- written out. The tree of a program says how it is written, the core says what it is.
use Rattle.std.specs.Prelude.{ℕ, ℤ, List}
use Rattle.function_blocks.specs.declared.kinds.Kind.{Kind}
use Rattle.function_blocks.specs.declared.blocks.BlockKind.{BlockKind}

-- A tag's name.
abbrev pub Name : Type 0
Name = List ℕ

-- Operators with one operand: a sign, ABS, a conversion to another type, NOT, and the test of a label of CASE, which
-- holds the numbers from the first to the last.
pub data UnaryOperator : Type 0 where
  Negate : Kind → UnaryOperator
  Absolute : Kind → UnaryOperator
  Convert : Kind → UnaryOperator
  Not : UnaryOperator
  Within : (first last : ℤ) → UnaryOperator

-- Operators with two operands. What computes a number has the type in which it does. IsBelow and those behind it are
-- <, >, <= and >=.
pub data BinaryOperator : Type 0 where
  Add : Kind → BinaryOperator
  Subtract : Kind → BinaryOperator
  Multiply : Kind → BinaryOperator
  Divide : Kind → BinaryOperator
  Modulo : Kind → BinaryOperator
  Minimum : Kind → BinaryOperator
  Maximum : Kind → BinaryOperator
  And : BinaryOperator
  Or : BinaryOperator
  Xor : BinaryOperator
  Equals : BinaryOperator
  Differs : BinaryOperator
  IsBelow : BinaryOperator
  IsAbove : BinaryOperator
  IsAtMost : BinaryOperator
  IsAtLeast : BinaryOperator

-- Operators with three operands: LIMIT of MN, IN and MX, and SEL of G, IN0 and IN1.
pub data TernaryOperator : Type 0 where
  Limit : TernaryOperator
  Select : TernaryOperator

-- Terms are expressions: a number; the field of a tag at a place, in its type, where a plain tag has the field 0 alone;
-- the element of an array with these bounds at an index; and operators with their operands.
pub data Term : Type 0 where
  Literal : ℤ → Term
  Field : Name → ℕ → Kind → Term
  Element : Name → Kind → (low high : ℤ) → Term → Term
  Unary : UnaryOperator → Term → Term
  Binary : BinaryOperator → Term → Term → Term
  Ternary : TernaryOperator → Term → Term → Term → Term

-- Acts are statements: nothing; one behind another; the assignment to a field, or to the element of an array at an
-- index; the call of a block; IF with THEN and ELSE; FOR with its tag, first number, last number, step and body; EXIT;
-- RETURN.
pub data Act : Type 0 where
  Skip : Act
  Then : Act → Act → Act
  Assign : Name → ℕ → Kind → Term → Act
  AssignElement : Name → Kind → (low high : ℤ) → Term → Term → Act
  Invoke : BlockKind → Name → Act
  If : Term → Act → Act → Act
  For : Name → Kind → (first last step : ℤ) → Act → Act
  Exit : Act
  Return : Act
