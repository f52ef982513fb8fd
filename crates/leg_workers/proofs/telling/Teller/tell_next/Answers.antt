use Rattle.std.proofs.Common.{refl}
use Rattle.leg_workers.proofs.Told.{note_view}
use Rattle.leg_workers.proofs.telling.Teller.tell_next.Goals as goal

pub returns-in-Some : goal.returns-in-Some
returns-in-Some g c =
    note_view g.E.Engine.meaning c.args.self.now _ _ c.self.view_is c.in-Some.note c.in-Some.ensures refl c.tell.ensures
    c.if-self.false refl
