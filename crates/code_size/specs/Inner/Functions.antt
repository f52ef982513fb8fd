-- Nobody has to believe what stands here: it serves the compiler alone.
-- How many operands operators have.
use Rattle.std.specs.Prelude.{ℕ}
use Rattle.st_meaning.specs.Functions.{Operator, OneOperand, TwoOperands, ThreeOperands}

-- How many operands an operator has behind the first.
abbrev pub further : Operator → ℕ
further (OneOperand o) = 0
further (TwoOperands o) = 1
further (ThreeOperands o) = 2
