-- What a command comes to, over a script that was read. Own rule.
use Rattle.std.specs.Prelude.{◌≡◌, Some, None, List, Result, Ok, Err}
use Rattle.tri_base.specs.declared.point.Point.{Point}
use Rattle.engine_face.specs.Meaning.{Meaning}
use Rattle.script_text.specs.ScriptValue.{ReadScript}
use Rattle.plant_script.specs.FirstRefused.{first_refused_of}
use Rattle.script_commands.specs.declared.script_command.Output.{Output}
use Rattle.script_commands.specs.declared.script_command.ScriptCommand.{ScriptCommand}
use Rattle.script_commands.specs.declared.script_command.Refused.{Refused}
use Rattle.script_commands.specs.declared.script_command.Refused.TheVariants.{Block, Stuck, NoMemory}
use Rattle.script_commands.specs.Outputs.{IsOutputOf, IsStuckAt}

-- Its output where the TEXT block and all SWAP blocks build; the first of these that doesn't; or, where all do, the
-- letter at which the schedule is stuck.
abbrev pub IsPlayed : ScriptCommand → (List Point → Meaning) → ReadScript → Result Output Refused → Type 0
IsPlayed command m script (Ok output) =
    (first_refused_of (m script.value.points) script ≡ None)
    × IsOutputOf command m script.value output.uncalm output.text.list
IsPlayed command m script (Err (Block line refusal)) =
    first_refused_of (m script.value.points) script ≡ Some (line, refusal)
IsPlayed command m script (Err (Stuck letter)) =
    (first_refused_of (m script.value.points) script ≡ None) × IsStuckAt command m script.value letter
IsPlayed command m script (Err NoMemory) = Unit {0}
