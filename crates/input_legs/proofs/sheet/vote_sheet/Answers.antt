use Rattle.std.proofs.Common.{◌∙◌, sym}
use Rattle.input_legs.proofs.Common.{common_vote}
use Rattle.input_legs.proofs.sheet.vote_sheet.Goals as goal

pub returns-in-Some-clause-values : goal.returns-in-Some-clause-values
returns-in-Some-clause-values c =
    c.set_shown.ensures.values
    ∙ sym (common_vote c.args.chassis.now (record { a = c.args.a.now; b = c.args.b.now; c = c.args.c.now })
    (record { time = c.in-Some.view.dt; values = c.in-Some.view.values.now }) c.points-points.ensures.chassis.fit
    c.in-Some.ensures.all).1
