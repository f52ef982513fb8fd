use Rattle.std.proofs.Common.{refl}
use Rattle.leg_workers.proofs.Told.{back_same}
use Rattle.leg_workers.proofs.teller_worker.on_teller.Goals as goal

pub returns-then-load : goal.returns-then-load
returns-then-load g c = back_same g.E.Engine.meaning c.args.teller c.args.teller refl
