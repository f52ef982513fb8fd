use Rattle.std.proofs.Common.{ap}
use Rattle.tribus.proofs.Steps.{merges}
use Rattle.tribus.proofs.link.Link.settle.Goals as goal

pub absorb-requires-clause-rule : goal.absorb-requires-clause-rule
absorb-requires-clause-rule g c =
    merges _ _ _ _ (ap (λ v. v.puts) c.sender.invariant.1) (ap (λ v. v.takes) c.receiver.invariant.1)
