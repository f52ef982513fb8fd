use Rattle.leg_workers.specs.Inner.Here.{AreHere}
use Rattle.leg_workers.specs.Inner.Telling.{TellsOn}
use Rattle.leg_workers.proofs.rounds.serve_scan.Given as goal

abbrev pub invariant-loop : goal.invariant-loop
invariant-loop g l = AreHere (TellsOn g.E.Engine.meaning) l.fn.here l.here
