use Rattle.leg_workers.proofs.Printed.{is_front}
use Rattle.leg_workers.proofs.printing.settle.Goals as goal

pub returns-clause-fronts : goal.returns-clause-fronts
returns-clause-fronts g c =
    let t = c.args.tellers in
    let o = c.args.outs in
    record {
      a = is_front t.a c.apart-leg_a.result c.settle-a.result o.a c.apart-leg_a.ensures c.settle-a.ensures.lists c.settle-a.ensures.whole;
      b = is_front t.b c.apart-leg_b.result c.settle-b.result o.b c.apart-leg_b.ensures c.settle-b.ensures.lists c.settle-b.ensures.whole;
      c = is_front t.c c.apart-leg_c.result c.settle-c.result o.c c.apart-leg_c.ensures c.settle-c.ensures.lists c.settle-c.ensures.whole;
    }
