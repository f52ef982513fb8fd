use Rattle.leg_workers.proofs.Kept.{kept_twice}
use Rattle.leg_workers.proofs.worker.work_pair.Goals as goal

pub returns-then-not-serve_pair : goal.returns-then-not-serve_pair
returns-then-not-serve_pair g c =
    (kept_twice g.E.Engine.meaning _ c.loop.pair _ c.loop.invariant c.serve_pair.ensures.kept, c.serve_pair.ensures.done c.if-not-serve_pair.true)

pub loop-preserved : goal.loop-preserved
loop-preserved g c = kept_twice g.E.Engine.meaning _ c.loop.pair _ c.loop.invariant c.serve_pair.ensures.kept
