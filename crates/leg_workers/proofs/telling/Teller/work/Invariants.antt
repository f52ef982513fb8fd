use Rattle.leg_workers.specs.Inner.Telling.{TellsOn}
use Rattle.leg_workers.proofs.telling.Teller.work.Given as goal

abbrev pub invariant-loop : goal.invariant-loop
invariant-loop g l = TellsOn g.E.Engine.meaning l.fn.self l.self
