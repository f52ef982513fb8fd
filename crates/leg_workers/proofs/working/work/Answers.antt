use Rattle.leg_workers.proofs.Rows.{kept_trans, worked}
use Rattle.leg_workers.proofs.working.work.Goals as goal

pub returns-then-not-take_turns : goal.returns-then-not-take_turns
returns-then-not-take_turns g c =
    worked g.E.Engine.meaning _ _
    (kept_trans g.E.Engine.meaning _ c.loop.legs.items _ c.loop.invariant c.take_turns.ensures.kept)
    (c.take_turns.ensures.done c.if-not-take_turns.true)

pub loop-preserved : goal.loop-preserved
loop-preserved g c =
    kept_trans g.E.Engine.meaning _ c.loop.legs.items _ c.loop.invariant c.take_turns.ensures.kept
