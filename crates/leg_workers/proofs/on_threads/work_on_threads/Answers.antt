use Rattle.leg_workers.proofs.Kept.{kept_twice}
use Rattle.leg_workers.proofs.on_threads.work_on_threads.Goals as goal

pub returns : goal.returns
returns g c =
    let m = g.E.Engine.meaning in
    let s = c.work_on_started-legs in
    let w = c.work_three in
    record {
      a = (kept_twice m c.args.a s.result.a w.result.a s.ensures.a w.ensures.a.0, w.ensures.a.1);
      b = (kept_twice m c.args.b s.result.b w.result.b s.ensures.b w.ensures.b.0, w.ensures.b.1);
      c = (kept_twice m c.args.c s.result.c w.result.c s.ensures.c w.ensures.c.0, w.ensures.c.1);
    }
