-- Verified code, as a caller sees it.
use Rattle.std.specs.Prelude.{ℕ, List}
use Rattle.scan_machine.specs.declared.instructions.Instr.{Instr}

-- the instructions, and the number of words that they work on
pub record CodeValue : Type 0 where
  pub list : List Instr
  pub words : ℕ
