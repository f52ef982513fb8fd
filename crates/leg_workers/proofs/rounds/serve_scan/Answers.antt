use Rattle.leg_workers.specs.Inner.Telling.{TellsOn}
use Rattle.leg_workers.proofs.Here.{all_twice}
use Rattle.leg_workers.proofs.Told.{tells_twice}
use Rattle.leg_workers.proofs.rounds.serve_scan.Goals as goal

pub returns-then-not-serve_each : goal.returns-then-not-serve_each
returns-then-not-serve_each g c =
    let m = g.E.Engine.meaning in
    all_twice (TellsOn m) (tells_twice m) _ c.loop.here _ c.loop.invariant c.serve_each.ensures

pub loop-preserved : goal.loop-preserved
loop-preserved g c =
    let m = g.E.Engine.meaning in
    all_twice (TellsOn m) (tells_twice m) _ c.loop.here _ c.loop.invariant c.serve_each.ensures
