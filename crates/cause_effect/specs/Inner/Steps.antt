-- What code that takes a line ensures, unless memory fails. It serves private functions alone: nobody has to
-- believe it.
use Rattle.std.specs.Prelude.{◌≡◌, ℕ, ◌+◌, Option, Some, Result, Ok, Err}
use Rattle.cause_effect.specs.declared.fault.MatrixCause.{MatrixCause}
use Rattle.cause_effect.specs.declared.fault.MatrixCause.TheVariants.{End as EarlyEnd}
use Rattle.cause_effect.specs.declared.fault.MatrixFault.{MatrixFault}
use Rattle.cause_effect.specs.declared.fault.MatrixFault.TheVariants.{At, NoMemory as NoRoom}
use Rattle.cause_effect.specs.declared.fault.LineFault.{LineFault}
use Rattle.cause_effect.specs.declared.fault.LineFault.TheVariants.{Cause, NoMemory}
use Rattle.cause_effect.specs.declared.keyword.Keyword.{Keyword}
use Rattle.cause_effect.specs.declared.keyword.Keyword.TheVariants.{End}
use Rattle.cause_effect.specs.Matrices.{MatrixValue}

-- The code answers as the definition does, and leaves what the definition gives.
abbrev pub Steps : {S T : Type 0} → Result S MatrixCause → Result T LineFault → S → Type 0
Steps answer (Ok x) new = answer ≡ Ok new
Steps answer (Err (Cause cause)) new = answer ≡ Err cause
Steps answer (Err NoMemory) new = Unit {0}

-- A line's fault with its number.
abbrev pub fault_at : ℕ → LineFault → MatrixFault
fault_at line (Cause cause) = At line cause
fault_at line NoMemory = NoRoom

-- What lines that stand so are in all.
abbrev pub finished : ℕ → MatrixValue → Option Keyword → Result MatrixValue MatrixFault
finished lines matrix (Some End) = Ok matrix
finished lines matrix last = Err (At (lines + 1) EarlyEnd)
