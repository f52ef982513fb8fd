use Rattle.std.proofs.Common.{◌∙◌, Some, ap, sym}
use Rattle.script_commands.specs.declared.script_command.ScriptCommand.{ScriptCommand}
use Rattle.script_commands.specs.declared.script_command.ScriptCommand.TheVariants.{Single, Step}
use Rattle.tricon.specs.Commands.{bytes_of, command_of}
use Rattle.tricon.specs.declared.command.Command.{Command}
use Rattle.tricon.specs.declared.command.Command.TheVariants.{Script, Matrix}
use Rattle.tricon.proofs.Complete.{reader_runs}
use Rattle.tricon.proofs.at_desk.desk.Goals as goal

pub returns-in-Some-Script-Single-clause-runs : goal.returns-in-Some-Script-Single-clause-runs
returns-in-Some-Script-Single-clause-runs g c =
    let s = c.in-Some-Script-Single in
    reader_runs (command_of (bytes_of c.args.words.now)) (Script (Single s.command)) _ _ c.run_reader.result
    (sym c.read_command.ensures.command ∙ (s.is ∙ (ap (λ (x : Command). Some x) s.field-0-is
    ∙ ap (λ (x : ScriptCommand). Some (Script x)) s.field-0-0-is)))
    tt c.run_reader.ensures.runs

pub returns-in-Some-Script-Step-clause-runs : goal.returns-in-Some-Script-Step-clause-runs
returns-in-Some-Script-Step-clause-runs g c =
    let s = c.in-Some-Script-Step in
    reader_runs (command_of (bytes_of c.args.words.now)) (Script Step) _ _ c.run_reader-in-Some-Script-Step.result
    (sym c.read_command.ensures.command ∙ (s.is ∙ (ap (λ (x : Command). Some x) s.field-0-is
    ∙ ap (λ (x : ScriptCommand). Some (Script x)) s.field-0-0-is)))
    tt c.run_reader-in-Some-Script-Step.ensures.runs

pub returns-in-Some-Matrix-clause-runs : goal.returns-in-Some-Matrix-clause-runs
returns-in-Some-Matrix-clause-runs g c =
    let s = c.in-Some-Matrix in
    reader_runs (command_of (bytes_of c.args.words.now)) Matrix _ _ c.run_reader-in-Some-Matrix.result
    (sym c.read_command.ensures.command ∙ (s.is ∙ ap (λ (x : Command). Some x) s.field-0-is))
    tt c.run_reader-in-Some-Matrix.ensures.runs
