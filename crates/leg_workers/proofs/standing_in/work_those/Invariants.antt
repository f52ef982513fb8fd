use Rattle.leg_workers.specs.Working.{IsKept}
use Rattle.leg_workers.specs.Inner.Here.{AreHere}
use Rattle.leg_workers.proofs.standing_in.work_those.Given as goal

abbrev pub invariant-loop : goal.invariant-loop
invariant-loop g l = AreHere (IsKept g.E.Engine.meaning) l.fn.those l.those
