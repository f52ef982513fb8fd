use Rattle.leg_workers.proofs.Told.{back_done, tells_twice}
use Rattle.leg_workers.proofs.telling.Teller.work.Goals as goal

pub returns-then-is_done : goal.returns-then-is_done
returns-then-is_done g c =
    let m = g.E.Engine.meaning in
    back_done m c.args.self.now _
    (tells_twice m c.args.self.now c.loop.self _ c.loop.invariant
    (tells_twice m c.loop.self c.serve.new.self _ c.serve.ensures c.tell_between.ensures))
    (c.is_done.ensures c.if-is_done.true)

pub loop-preserved : goal.loop-preserved
loop-preserved g c =
    let m = g.E.Engine.meaning in
    tells_twice m c.args.self.now c.loop.self _ c.loop.invariant
    (tells_twice m c.loop.self c.serve.new.self _ c.serve.ensures c.tell_between.ensures)
