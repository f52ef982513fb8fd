use Rattle.std.proofs.Common.{ap}
use Rattle.tribus.proofs.Steps.{takes}
use Rattle.tribus.proofs.link.Receiver.take.Goals as goal

pub try_pop_as-requires-clause-rule : goal.try_pop_as-requires-clause-rule
try_pop_as-requires-clause-rule g c =
    let is = c.loop.invariant.taken in
    takes _ _ (ap (λ v. v.takes) is) (ap (λ v. v.left) is)
