-- What bytes that spell a script come to.
use Rattle.std.proofs.Common.{◌≡◌, ◌∙◌, ℕ, List, Option, Some, None, Result, Ok, Err, subst}
use Rattle.engine_face.specs.declared.refusal.Refusal.{Refusal}
use Rattle.script_text.specs.ScriptValue.{ReadScript}
use Rattle.script_commands.specs.declared.script_command.Output.{Output}
use Rattle.script_commands.specs.declared.script_command.ScriptCommand.{ScriptCommand}
use Rattle.script_commands.specs.declared.script_command.Refused.{Refused}
use Rattle.script_commands.specs.declared.script_command.Refused.TheVariants as refused
use Rattle.script_commands.specs.Playing.{IsPlayed}
use Rattle.st_build.specs.StructuredText.{structured_text}
use Rattle.tricon.specs.Inner.Outcomes.{IsScriptOf}
use Rattle.tricon.specs.Readings.{BuildsNot, ScriptOutput, ScriptStuck}

module _ (command : ScriptCommand) (bytes : List ℕ) (script : ReadScript) (of : IsScriptOf bytes (Ok script))
    (played : Result Output Refused) (is : IsPlayed command structured_text script played) where
  -- a command has an output
  pub output : (out : Output) → played ≡ Ok out → ScriptOutput command bytes out.uncalm out.text.list
  output out e =
      let h = subst (IsPlayed command structured_text script) e is in
      record { script = script; spells = of.0; proper = of.1; builds = h.0; is = h.1 }

  -- a block is no program
  pub blocked : (line : ℕ) (refusal : Refusal) → played ≡ Err (refused.Block line refusal) → BuildsNot bytes line refusal
  blocked line refusal e =
      record { script = script; spells = of.0; first = subst (IsPlayed command structured_text script) e is }

  -- the schedule is stuck
  pub stuck : (letter : ℕ) → played ≡ Err (refused.Stuck letter) → ScriptStuck command bytes letter
  stuck letter e =
      let h = subst (IsPlayed command structured_text script) e is in
      record { script = script; spells = of.0; builds = h.0; at = h.1 }
