use Rattle.std.proofs.Common.{refl}
use Rattle.leg_workers.proofs.Told.{over_view}
use Rattle.leg_workers.proofs.telling.Teller.tell_over.Goals as goal

pub returns-then-makes_no_more : goal.returns-then-makes_no_more
returns-then-makes_no_more g c =
    over_view g.E.Engine.meaning c.args.self.now _ _ c.self.view_is refl refl c.tell.ensures c.requires.over refl
    c.requires.none (c.makes_no_more.ensures c.if-makes_no_more.true)
