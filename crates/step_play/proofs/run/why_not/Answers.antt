use Rattle.std.proofs.Common.{◌∙◌, List, length, sym, subst, ap, arith}
use Rattle.tri_base.specs.declared.leg.Leg.{Leg}
use Rattle.step_play.proofs.Ended.{place_below, run_ended, run_stuck}
use Rattle.step_play.proofs.run.why_not.Goals as goal

pub overflow_add-result : goal.overflow_add-result
overflow_add-result g c =
    let below = place_below g.E.Engine.meaning c.args.script.now.value c.args.stuck c.in-Some.place c.args.legs.now c.requires c.in-Some.is in
    omega (arith, below, ap (λ (l : List Leg). length l) c.schedule-letters.ensures, c.schedule-letters.auto)

pub returns-in-Some : goal.returns-in-Some
returns-in-Some g c =
    run_stuck g.E.Engine.meaning c.args.script.now.value c.args.stuck c.in-Some.place c.args.legs.now c.requires c.in-Some.is
    (sym c.some_leg_starves.ensures ∙ c.if-some_leg_starves.false)

pub returns-in-None : goal.returns-in-None
returns-in-None g c =
    run_ended g.E.Engine.meaning c.args.script.now.value c.args.stuck c.args.legs.now c.requires c.in-None.is
    (sym c.some_leg_starves.ensures ∙ c.if-some_leg_starves.false)
