use Rattle.std.proofs.Common.{◌∙◌, Option, ap, subst, sym}
use Rattle.script_commands.specs.declared.script_command.PlayCommand.{PlayCommand}
use Rattle.script_commands.specs.declared.script_command.ScriptCommand.TheVariants.{Play}
use Rattle.tricon.specs.Commands.{bytes_of, command_of, played_or, station_command_of}
use Rattle.tricon.specs.CommandRuns.{Runs}
use Rattle.tricon.specs.declared.command.Command.{Command}
use Rattle.tricon.specs.declared.command.Command.TheVariants.{Script}
use Rattle.tricon.proofs.Complete.{reader_runs}
use Rattle.tricon.proofs.Written.{same_runs}
use Rattle.tricon.proofs.at_station.station.Goals as goal

pub returns-in-Some-clause-runs : goal.returns-in-Some-clause-runs
returns-in-Some-clause-runs g c =
    let words = bytes_of c.args.words.now in
    let asked = ap (λ (p : Option PlayCommand). played_or p (command_of words)) (sym c.read_play.ensures ∙ c.in-Some.is) in
    reader_runs (station_command_of words) (Script (Play c.in-Some.command)) _ _ c.run_play.result asked tt
    c.run_play.ensures.runs

pub returns-in-None-clause-runs : goal.returns-in-None-clause-runs
returns-in-None-clause-runs g c =
    let words = bytes_of c.args.words.now in
    let asked = ap (λ (p : Option PlayCommand). played_or p (command_of words)) (sym c.read_play.ensures ∙ c.in-None.is) in
    same_runs _ _ _ _ _ (sym asked) c.desk.ensures.runs

pub returns-in-None-clause-make_reads_nothing : goal.returns-in-None-clause-make_reads_nothing
returns-in-None-clause-make_reads_nothing g c =
    let words = bytes_of c.args.words.now in
    let asked = ap (λ (p : Option PlayCommand). played_or p (command_of words)) (sym c.read_play.ensures ∙ c.in-None.is) in
    λ number scans e. c.desk.ensures.make_reads_nothing number scans (sym asked ∙ e)
