use Rattle.leg_workers.specs.Working.{IsKept}
use Rattle.leg_workers.proofs.worker.work_pair.Given as goal

abbrev pub invariant-loop : goal.invariant-loop
invariant-loop g l = IsKept g.E.Engine.meaning l.fn.pair l.pair
