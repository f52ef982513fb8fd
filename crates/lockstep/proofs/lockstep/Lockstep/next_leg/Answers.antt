use Rattle.std.proofs.Common.{◌∙◌, refl, sym, subst}
use Rattle.leg_laws.specs.Counts.{IsCounted}
use Rattle.lockstep.proofs.Steps.{nobody}
use Rattle.lockstep.proofs.lockstep.Lockstep.next_leg.Goals as goal

pub returns-else-can_step-3-clause-none : goal.returns-else-can_step-3-clause-none
returns-else-can_step-3-clause-none g c =
    let counted = subst IsCounted c.self.view_is c.self.invariant in
    let none = nobody c.args.self.now counted (sym c.can_step.ensures ∙ c.if-can_step.false) (sym c.can_step-else-can_step.ensures ∙ c.if-can_step-2.false) (sym c.can_step-else-can_step-2.ensures ∙ c.if-can_step-3.false) in
    (λ _. none, λ _. refl)
