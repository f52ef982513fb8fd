-- What code that takes a line ensures, unless memory fails. It serves private functions alone: nobody has to
-- believe it.
use Rattle.std.specs.Prelude.{◌≡◌, ℕ, ◌+◌, Result, Ok, Err}
use Rattle.script_text.specs.declared.fault.ScriptCause.{ScriptCause}
use Rattle.script_text.specs.declared.fault.ScriptCause.TheVariants.{End}
use Rattle.script_text.specs.declared.fault.ScriptFault.{ScriptFault}
use Rattle.script_text.specs.declared.fault.ScriptFault.TheVariants.{At, NoMemory as NoRoom}
use Rattle.script_lines.specs.declared.keyword.Part.{Part}
use Rattle.script_lines.specs.declared.keyword.Part.TheVariants.{Ended}
use Rattle.script_text.specs.declared.fault.LineFault.{LineFault}
use Rattle.script_text.specs.declared.fault.LineFault.TheVariants.{Cause, NoMemory}
use Rattle.script_text.specs.Standing.{Standing}
use Rattle.script_text.specs.Spells.{script_in}
use Rattle.script_text.specs.ScriptValue.{ReadScript}

-- The code answers as the definition does.
abbrev pub Steps : {T : Type 0} → Result Standing ScriptCause → Result T LineFault → Standing → Type 0
Steps answer (Ok x) new = answer ≡ Ok new
Steps answer (Err (Cause cause)) new = answer ≡ Err cause
Steps answer (Err NoMemory) new = Unit {0}

-- A line's fault with its number.
abbrev pub fault_at : ℕ → LineFault → ScriptFault
fault_at line (Cause cause) = At line cause
fault_at line NoMemory = NoRoom

-- What lines that stand so are in all.
abbrev pub finished : Standing → Part → Result ReadScript ScriptFault
finished s Ended = Ok (script_in s)
finished s part = Err (At (s.line + 1) End)
