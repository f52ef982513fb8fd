-- The standard functions (IEC 61131-3:2013, 6.6.2.5), as operators of the core.
use Rattle.std.specs.Prelude.{pos, List, [], ◌∷◌, Option, None, Some}
use Rattle.function_blocks.specs.declared.kinds.Kind.{Kind}
use Rattle.function_blocks.specs.declared.kinds.Kind.TheVariants as kind
use Rattle.st_tree.specs.declared.expression.Function.{Function}
use Rattle.st_tree.specs.declared.expression.Function.TheVariants as function
use Rattle.st_core.specs.Core.{UnaryOperator, BinaryOperator, TernaryOperator, Term}
use Rattle.st_core.specs.Core as c

-- An operator, by the number of its operands.
pub data Operator : Type 0 where
  OneOperand : UnaryOperator → Operator
  TwoOperands : BinaryOperator → Operator
  ThreeOperands : TernaryOperator → Operator

-- The operator that a function is, where this type is asked for.
abbrev pub operator_of : Function → Kind → Operator
operator_of function.Abs asked = OneOperand (c.Absolute asked)
operator_of function.Min asked = TwoOperands (c.Minimum asked)
operator_of function.Max asked = TwoOperands (c.Maximum asked)
operator_of function.Limit asked = ThreeOperands c.Limit
operator_of function.Sel asked = ThreeOperands c.Select
operator_of function.IntToDint asked = OneOperand (c.Convert kind.Dint)
operator_of function.DintToInt asked = OneOperand (c.Convert kind.Int)

-- An operator with its first operand and the others. No well-typed program has too many of them or too few.
unfoldable pub combined : Operator → Term → List Term → Term
combined (OneOperand o) t [] = c.Unary o t
combined (OneOperand o) t (u ∷ us) = c.Literal (pos 0)
combined (TwoOperands o) t [] = c.Literal (pos 0)
combined (TwoOperands o) t (u ∷ []) = c.Binary o t u
combined (TwoOperands o) t (u ∷ w ∷ us) = c.Literal (pos 0)
combined (ThreeOperands o) t [] = c.Literal (pos 0)
combined (ThreeOperands o) t (u ∷ []) = c.Literal (pos 0)
combined (ThreeOperands o) t (u ∷ w ∷ []) = c.Ternary o t u w
combined (ThreeOperands o) t (u ∷ w ∷ x ∷ us) = c.Literal (pos 0)

-- The type that the first argument is asked for, where the function is asked for a type: SEL's is BOOL, and a
-- conversion's the type that it converts from.
abbrev pub first_asked : Function → Kind → Kind
first_asked function.Sel asked = kind.Bool
first_asked function.IntToDint asked = kind.Int
first_asked function.DintToInt asked = kind.Dint
first_asked _ asked = asked

-- What the type of the first argument says of the function's own: SEL's says nothing, and a conversion has the type
-- that it converts to.
abbrev pub first_own : Function → Option Kind → Option Kind
first_own function.Sel own = None
first_own function.IntToDint own = Some kind.Dint
first_own function.DintToInt own = Some kind.Int
first_own _ own = own
