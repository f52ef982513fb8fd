use Rattle.std.proofs.Common.{◌∙◌, sym}
use Rattle.plant_script.proofs.Facts.{nothing_left}
use Rattle.plant_script.proofs.refused.refused_swap.Goals as goal

pub returns : goal.returns
returns g c =
    let m = g.E.Engine.meaning (g.E.Engine.points c.args.engine.now) in
    sym (c.moments.invariant ∙ nothing_left m c.args.numbers.now c.moments.seen c.moments.rest.now c.in_default.len_below)
