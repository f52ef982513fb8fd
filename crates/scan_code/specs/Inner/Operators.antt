-- Nobody has to believe what stands here: it serves private functions alone.
-- The instructions of operators.
use Rattle.scan_machine.specs.declared.instructions.Instr.{Instr}
use Rattle.st_core.specs.Codes.{unary_instr, binary_instr, ternary_instr}
use Rattle.st_meaning.specs.Functions.{Operator, OneOperand, TwoOperands, ThreeOperands}

-- the instruction of an operator
abbrev pub operator_instr : Operator → Instr
operator_instr (OneOperand o) = unary_instr o
operator_instr (TwoOperands o) = binary_instr o
operator_instr (ThreeOperands o) = ternary_instr o
