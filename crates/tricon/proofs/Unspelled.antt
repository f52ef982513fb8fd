-- What bytes that spell no script come to.
use Rattle.std.proofs.Common.{ℕ, List, Err}
use Rattle.script_commands.specs.declared.script_command.ScriptCommand.{ScriptCommand}
use Rattle.tricon.specs.Inner.Outcomes.{IsOutcome, IsScriptOf}
use Rattle.tricon.specs.declared.command.Command.TheVariants.{Script}
use Rattle.tricon.specs.declared.status.Status.{Status}
use Rattle.tricon.specs.declared.status.Status.TheVariants.{Done, Usage, Refused, ReadFault, WriteFault, NoMemory, DoneNotCalm, ScriptTooLong, Stuck}

-- a text that spells no script
pub unspelled : (command : ScriptCommand) (bytes : List ℕ) (status : Status) → IsScriptOf bytes (Err status)
    → IsOutcome (Script command) bytes (Err status)
unspelled command bytes Done h = h
unspelled command bytes Usage h = h
unspelled command bytes (Refused line cause) h = h
unspelled command bytes ReadFault h = h
unspelled command bytes WriteFault h = h
unspelled command bytes NoMemory h = h
unspelled command bytes (DoneNotCalm scan) h = h
unspelled command bytes ScriptTooLong h = h
unspelled command bytes (Stuck index) h = absurd h
