use Rattle.std.proofs.Common.{◌≡◌}
use Rattle.leg_workers.specs.Inner.Here.{AreHere}
use Rattle.leg_workers.specs.Inner.Telling.{TellsOn}
use Rattle.leg_workers.specs.Inner.Hearing.{HasPrinted, NothingHeard}
use Rattle.leg_workers.proofs.rounds.play_rounds.Given as goal

abbrev pub invariant-loop : goal.invariant-loop
invariant-loop g l =
    record {
      here : AreHere (TellsOn g.E.Engine.meaning) l.fn.here l.here;
      limit : l.page.scans ≡ l.fn.scans;
      printed : NothingHeard l.fn.outs → HasPrinted g.P.Printer.After l.fn.outs l.ears l.page l.fn.printer l.printer;
    }
