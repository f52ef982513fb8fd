-- What code of a program's body has to do.
use Rattle.std.specs.Prelude.{◌≡◌, ℕ, ◌≤◌, ℤ, List, []}
use Rattle.scan_machine.specs.declared.instructions.Instr.{Instr}
use Rattle.scan_machine.specs.Machine.{Ran, Runs}
use Rattle.scan_machine.specs.Rules.{IsVerified}
use Rattle.st_core.specs.Core.{Act}
use Rattle.st_core.specs.Environments.{Env}
use Rattle.st_core.specs.Effects.{effect_of}
use Rattle.st_core.specs.Costs.{cost_of}
use Rattle.st_core.specs.Memory.{Shape, total_of, shape_of, words_of}
use Rattle.st_core.specs.Fits.{ActFits}

-- A run of the code on the words of an environment ends, leaves the words and the flag of what the act does to it, and
-- takes no more instructions than the act costs. Stores that were noted before the run may be any.
pub record DoesBody (a : Act) (code : List Instr) (dt : ℤ) (env : Env) (stores : List (ℕ × ℤ)) : Type 0 where
  pub ran : Ran
  pub run : Runs code dt (record { words = words_of env; stores = stores }) ran
  pub words : ran.memory.words ≡ words_of (effect_of dt a env).env
  pub flag : ran.flag ≡ (effect_of dt a env).flag
  pub cheap : ran.count ≤ cost_of a

-- The code keeps all rules of the machine, and does what the act does on each environment of this shape.
pub record IsCodeOf (shape : Shape) (a : Act) (code : List Instr) : Type 0 where
  pub verified : IsVerified code (total_of shape)
  pub does :
      (dt : ℤ) → (env : Env) → (stores : List (ℕ × ℤ)) → shape_of env ≡ shape → DoesBody a code dt env stores

-- Each body that fits has such code.
abbrev pub HasCode : Type 0
HasCode = (shape : Shape) → (a : Act) → ActFits shape [] a → (code : List Instr) × IsCodeOf shape a code
