use Rattle.std.proofs.Common.{refl}
use Rattle.leg_workers.proofs.Told.{served_view}
use Rattle.leg_workers.proofs.telling.Teller.serve.Goals as goal

pub returns : goal.returns
returns g c =
    served_view g.E.Engine.meaning c.args.self.now _ _ c.self.view_is c.serve.ensures.served refl refl
