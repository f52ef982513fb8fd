-- Nobody has to believe what stands here: it serves private functions alone.
-- The tokens that stand for an operator, a function, a truth value, a sign or a type.
use Rattle.std.specs.Prelude.{Bool, true, false, Option, Some, None}
use Rattle.st_tree.specs.declared.token.Fixed.{Fixed}
use Rattle.st_tree.specs.declared.token.Fixed.TheVariants as w
use Rattle.st_tree.specs.declared.expression.EqualOperator.{EqualOperator}
use Rattle.st_tree.specs.declared.expression.EqualOperator.TheVariants as equal
use Rattle.st_tree.specs.declared.expression.CompareOperator.{CompareOperator}
use Rattle.st_tree.specs.declared.expression.CompareOperator.TheVariants as compare
use Rattle.st_tree.specs.declared.expression.AddOperator.{AddOperator}
use Rattle.st_tree.specs.declared.expression.AddOperator.TheVariants as add
use Rattle.st_tree.specs.declared.expression.MultiplyOperator.{MultiplyOperator}
use Rattle.st_tree.specs.declared.expression.MultiplyOperator.TheVariants as multiply
use Rattle.st_tree.specs.declared.expression.Function.{Function}
use Rattle.st_tree.specs.declared.expression.Function.TheVariants as function
use Rattle.st_tree.specs.declared.declaration.Sign.{Sign}
use Rattle.st_tree.specs.declared.declaration.Sign.TheVariants as sign
use Rattle.function_blocks.specs.declared.kinds.Kind.{Kind as Simple}
use Rattle.function_blocks.specs.declared.kinds.Kind.TheVariants as simple
use Rattle.function_blocks.specs.declared.blocks.BlockKind.{BlockKind}
use Rattle.function_blocks.specs.declared.blocks.BlockKind.TheVariants as block

abbrev pub equal_of : Fixed → Option EqualOperator
equal_of w.Equals = Some equal.Equal
equal_of w.Unequal = Some equal.Unequal
equal_of _ = None

abbrev pub compare_of : Fixed → Option CompareOperator
compare_of w.Less = Some compare.Less
compare_of w.Greater = Some compare.Greater
compare_of w.AtMost = Some compare.AtMost
compare_of w.AtLeast = Some compare.AtLeast
compare_of _ = None

abbrev pub add_of : Fixed → Option AddOperator
add_of w.Plus = Some add.Add
add_of w.Minus = Some add.Subtract
add_of _ = None

abbrev pub multiply_of : Fixed → Option MultiplyOperator
multiply_of w.Times = Some multiply.Multiply
multiply_of w.Divide = Some multiply.Divide
multiply_of w.Mod = Some multiply.Modulo
multiply_of _ = None

abbrev pub function_of : Fixed → Option Function
function_of w.Abs = Some function.Abs
function_of w.Min = Some function.Min
function_of w.Max = Some function.Max
function_of w.Limit = Some function.Limit
function_of w.Sel = Some function.Sel
function_of w.IntToDint = Some function.IntToDint
function_of w.DintToInt = Some function.DintToInt
function_of _ = None

abbrev pub truth_of : Fixed → Option Bool
truth_of w.True = Some true
truth_of w.False = Some false
truth_of _ = None

abbrev pub sign_of : Fixed → Option Sign
sign_of w.Plus = Some sign.Plus
sign_of w.Minus = Some sign.Minus
sign_of _ = None

abbrev pub simple_of : Fixed → Option Simple
simple_of w.Bool = Some simple.Bool
simple_of w.Int = Some simple.Int
simple_of w.Dint = Some simple.Dint
simple_of _ = None

abbrev pub block_of : Fixed → Option BlockKind
block_of w.RTrig = Some block.RTrig
block_of w.FTrig = Some block.FTrig
block_of w.Sr = Some block.Sr
block_of w.Rs = Some block.Rs
block_of w.Ctu = Some block.Ctu
block_of w.Ctd = Some block.Ctd
block_of w.Ton = Some block.Ton
block_of w.Tof = Some block.Tof
block_of w.Tp = Some block.Tp
block_of _ = None
