use Rattle.leg_workers.specs.Working.{IsKept}
use Rattle.leg_workers.proofs.standing_in.work_three.Given as goal

abbrev pub invariant-loop : goal.invariant-loop
invariant-loop g l =
    record {
      a : IsKept g.E.Engine.meaning l.fn.legs.a l.a;
      b : IsKept g.E.Engine.meaning l.fn.legs.b l.b;
      c : IsKept g.E.Engine.meaning l.fn.legs.c l.c;
    }
