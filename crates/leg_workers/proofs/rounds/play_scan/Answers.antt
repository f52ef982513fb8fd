use Rattle.leg_workers.specs.Inner.Telling.{TellsOn}
use Rattle.leg_workers.proofs.Here.{all_twice}
use Rattle.leg_workers.proofs.Told.{tells_twice}
use Rattle.leg_workers.proofs.rounds.play_scan.Goals as goal

pub returns : goal.returns
returns g c =
    let m = g.E.Engine.meaning in
    all_twice (TellsOn m) (tells_twice m) _ c.serve_scan.new.here _ c.serve_scan.ensures c.tell_each.ensures
