use Rattle.std.proofs.Common.{◌≡◌, ◌∙◌, sym, true, false}
use Rattle.std.specs.Result.{is_err}
use Rattle.leg_laws.specs.Exchanges.{can_step}
use Rattle.leg_laws.specs.ExchangeSteps.{ExchangeStep}
use Rattle.lockstep.proofs.Ending.{done, first_steps, not_err, one_less, one_more}
use Rattle.lockstep.proofs.lockstep.Lockstep.run.Goals as goal

pub unreachable-requires : goal.unreachable-requires
unreachable-requires g c =
    let can = first_steps c.steps.self c.in-Some.leg (sym c.next_leg.ensures.first ∙ c.in-Some.is) in
    not_err c.step.result (can_step c.steps.self c.in-Some.leg ≡ true) c.step.ensures.enabled can
    (sym c.is_err.ensures.value ∙ c.if-is_err.true)

pub steps-smaller : goal.steps-smaller
steps-smaller g c =
    let m = g.E.Engine.meaning in
    let stepped = done c.step.result (ExchangeStep m c.steps.self c.in-Some.leg c.step.new.self) c.step.ensures.stepped
    (sym c.is_err.ensures.value ∙ c.if-is_err.false) in
    one_less m c.steps.self c.step.new.self c.in-Some.leg stepped

pub steps-preserved : goal.steps-preserved
steps-preserved g c =
    let m = g.E.Engine.meaning in
    let stepped = done c.step.result (ExchangeStep m c.steps.self c.in-Some.leg c.step.new.self) c.step.ensures.stepped
    (sym c.is_err.ensures.value ∙ c.if-is_err.false) in
    one_more m c.args.self.now c.steps.self c.step.new.self c.in-Some.leg c.steps.invariant stepped
