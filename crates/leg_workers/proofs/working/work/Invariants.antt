use Rattle.leg_workers.specs.Working.{AreAll, IsKept}
use Rattle.leg_workers.proofs.working.work.Given as goal

abbrev pub invariant-loop : goal.invariant-loop
invariant-loop g l = AreAll (IsKept g.E.Engine.meaning) l.fn.legs.items l.legs.items
