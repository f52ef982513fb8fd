use Rattle.std.proofs.Common.{refl, subst}
use Rattle.leg_workers.specs.Working.{IsKept, LegAtPost}
use Rattle.leg_workers.specs.Inner.Promises.{IsPromised}
use Rattle.leg_workers.proofs.Handed.{handed}
use Rattle.leg_workers.proofs.start.join_leg.Goals as goal

pub returns-in-Some-default : goal.returns-in-Some-default
returns-in-Some-default g c was h =
    let m = g.E.Engine.meaning in
    let e = handed (IsKept m) was c.in-Some-default.worker.promise.was.value _ _ (rw c.in-Some-default.is-0 refl) h in
    c.returned.ensures was
    (subst (λ (p : LegAtPost). IsPromised m p c.join.result.pair c.join.result.is_worked) e c.join.ensures)
