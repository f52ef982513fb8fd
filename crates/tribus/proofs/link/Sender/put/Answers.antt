use Rattle.std.proofs.Common.{ap}
use Rattle.tribus.proofs.Steps.{sends}
use Rattle.tribus.proofs.link.Sender.put.Goals as goal

pub try_push_as-requires-clause-rule : goal.try_push_as-requires-clause-rule
try_push_as-requires-clause-rule g c = sends _ _ _ _ (ap (λ v. v.puts) c.loop.invariant.sent)
