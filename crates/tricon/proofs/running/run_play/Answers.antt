use Rattle.script_commands.specs.declared.script_command.ScriptCommand.TheVariants.{Play}
use Rattle.tri_io.specs.declared.reading.ReadAll.TheVariants.{Failed}
use Rattle.tricon.specs.declared.command.Command.TheVariants.{Script}
use Rattle.tricon.proofs.Written.{no_error, wrote}
use Rattle.tricon.proofs.running.run_play.Goals as goal

pub returns-in-Ok-write_all-clause-runs : goal.returns-in-Ok-write_all-clause-runs
returns-in-Ok-write_all-clause-runs g c =
    let output = c.in-Ok-play_outcome.output in
    let still = no_error c.in-Ok.text Failed c.in-Ok.ensures.steady in
    wrote (Script (Play c.args.command)) _ _ c.in-Ok.text.list output.text.list _ output.uncalm _ c.ended.ensures
    c.in-Ok.ensures.all c.in-Ok.ensures.within c.bytes.ensures c.in-Ok-write_all.ensures.all c.in-Ok-play_outcome.ensures
    still c.in-Ok-write_all.ensures.cause.steady
