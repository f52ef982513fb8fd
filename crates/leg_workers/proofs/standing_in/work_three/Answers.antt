use Rattle.std.proofs.Common.{refl}
use Rattle.leg_workers.proofs.Kept.{kept_twice}
use Rattle.leg_workers.proofs.standing_in.work_three.Goals as goal

pub returns-then-not-served_c-clause-a : goal.returns-then-not-served_c-clause-a
returns-then-not-served_c-clause-a g c =
    (kept_twice g.E.Engine.meaning _ c.loop.a _ c.loop.invariant.a c.serve_pair-served_a.ensures.kept, c.if-not-served_a.ensures.done refl)

pub returns-then-not-served_c-clause-b : goal.returns-then-not-served_c-clause-b
returns-then-not-served_c-clause-b g c =
    (kept_twice g.E.Engine.meaning _ c.loop.b _ c.loop.invariant.b c.serve_pair-served_b.ensures.kept, c.if-not-served_b.ensures.done refl)

pub returns-then-not-served_c-clause-c : goal.returns-then-not-served_c-clause-c
returns-then-not-served_c-clause-c g c =
    (kept_twice g.E.Engine.meaning _ c.loop.c _ c.loop.invariant.c c.serve_pair-served_c.ensures.kept, c.if-not-served_c.ensures.done refl)

pub loop-preserved : goal.loop-preserved
loop-preserved g c =
    let m = g.E.Engine.meaning in
    record {
      a = kept_twice m _ c.loop.a _ c.loop.invariant.a c.serve_pair-served_a.ensures.kept;
      b = kept_twice m _ c.loop.b _ c.loop.invariant.b c.serve_pair-served_b.ensures.kept;
      c = kept_twice m _ c.loop.c _ c.loop.invariant.c c.serve_pair-served_c.ensures.kept;
    }
