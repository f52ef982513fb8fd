use Rattle.leg_workers.specs.Working.{IsDone, IsKept}
use Rattle.leg_workers.proofs.Here.{all_twice, all_with}
use Rattle.leg_workers.proofs.Kept.{kept_twice}
use Rattle.leg_workers.proofs.standing_in.work_those.Goals as goal

pub returns-then-not-serve_those : goal.returns-then-not-serve_those
returns-then-not-serve_those g c =
    let R = IsKept g.E.Engine.meaning in
    all_with R IsDone _ _
    (all_twice R (kept_twice g.E.Engine.meaning) _ c.loop.those _ c.loop.invariant c.serve_those.ensures.kept)
    (c.serve_those.ensures.done c.if-not-serve_those.true)

pub loop-preserved : goal.loop-preserved
loop-preserved g c =
    all_twice (IsKept g.E.Engine.meaning) (kept_twice g.E.Engine.meaning) _ c.loop.those _ c.loop.invariant
    c.serve_those.ensures.kept
