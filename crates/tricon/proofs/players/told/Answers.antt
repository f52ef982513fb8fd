use Rattle.std.proofs.Common.{◌∙◌, Err, ap}
use Rattle.script_commands.specs.declared.script_command.Refused.{Refused}
use Rattle.tricon.proofs.Outcomes.{blocked, output, stuck}
use Rattle.tricon.proofs.players.told.Goals as goal

pub returns-in-Ok : goal.returns-in-Ok
returns-in-Ok c =
    output c.args.command c.args.text.now.list c.args.script.now c.requires.spelled c.args.played c.requires.played
    c.in-Ok.output c.in-Ok.is

pub returns-in-Err-Block : goal.returns-in-Err-Block
returns-in-Err-Block c =
    let e = c.in-Err-Block in
    blocked c.args.command c.args.text.now.list c.args.script.now c.requires.spelled c.args.played c.requires.played
    e.line e.refusal (e.is ∙ ap (λ (x : Refused). Err x) e.field-0-is)

pub returns-in-Err-Stuck : goal.returns-in-Err-Stuck
returns-in-Err-Stuck c =
    let e = c.in-Err-Stuck in
    stuck c.args.command c.args.text.now.list c.args.script.now c.requires.spelled c.args.played c.requires.played
    e.letter (e.is ∙ ap (λ (x : Refused). Err x) e.field-0-is)
