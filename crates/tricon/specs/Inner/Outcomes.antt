-- What is made of bytes before anything is written, and a run over them.
-- Nobody has to believe this: it serves private functions alone.
use Rattle.std.specs.Prelude.{◌≡◌, ◌≢◌, ◌⊎◌, ℕ, ◌<◌, ◌≤◌, List, length, Some, Result, Ok, Err}
use Rattle.script_text.specs.IsScript.{IsScript}
use Rattle.script_text.specs.ScriptValue.{ReadScript}
use Rattle.script_text.specs.Spells.{Spells, contents_of}
use Rattle.script_commands.specs.declared.script_command.Output.{Output}
use Rattle.tricon.specs.declared.command.Command.{Command}
use Rattle.tricon.specs.Readings.{IsOutput, IsRefused, IsStuck, ScriptRefused}
use Rattle.tricon.specs.CommandRuns.{Stream, ReaderSays, script_limit}
use Rattle.tricon.specs.declared.status.Status.{Status}
use Rattle.tricon.specs.declared.status.Status.TheVariants.{Refused, Usage, NoMemory, ReadFault, ScriptTooLong, Stuck, WriteFault}

-- The script that bytes spell; or why they spell none.
abbrev pub IsScriptOf : List ℕ → Result ReadScript Status → Type 0
IsScriptOf bytes (Ok script) = Spells (contents_of bytes) script × IsScript script.value
IsScriptOf bytes (Err (Refused line cause)) = ScriptRefused bytes line cause
IsScriptOf bytes (Err NoMemory) = Unit {0}
IsScriptOf bytes (Err status) = ⊥

-- Why bytes have no output.
abbrev pub IsRefusal : Command → List ℕ → Status → Type 0
IsRefusal command bytes (Refused line cause) = IsRefused command bytes line cause
IsRefusal command bytes (Stuck index) = IsStuck command bytes index
IsRefusal command bytes NoMemory = Unit {0}
IsRefusal command bytes status = ⊥

-- Their output; or why there is none.
abbrev pub IsOutcome : Command → List ℕ → Result Output Status → Type 0
IsOutcome command bytes (Ok output) = IsOutput command bytes output.uncalm output.text.list
IsOutcome command bytes (Err status) = IsRefusal command bytes status

-- A run of a command that reads.
pub record RunsReader (command : Command) (source sink : Stream) (status : Status) : Type 0 where
  pub says : ReaderSays command source sink status
  pub asks : status ≢ Usage
  pub source_steady : status ≢ ReadFault → source.faults_after ≡ source.faults_before
  pub sink_steady : status ≢ WriteFault → sink.faults_after ≡ sink.faults_before
  pub source_never_falls : source.faults_before ≤ source.faults_after
  pub sink_never_falls : sink.faults_before ≤ sink.faults_after
  pub too_long : (bytes : List ℕ) → source.before ≡ Some bytes → script_limit < length bytes
      → (status ≡ ScriptTooLong) ⊎ ((status ≡ ReadFault) ⊎ (status ≡ NoMemory))
