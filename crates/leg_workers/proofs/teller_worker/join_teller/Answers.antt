use Rattle.std.proofs.Common.{refl, subst}
use Rattle.leg_workers.specs.Inner.Telling.{IsBack, TellerValue}
use Rattle.leg_workers.proofs.Handed.{handed}
use Rattle.leg_workers.proofs.teller_worker.join_teller.Goals as goal

pub returns-in-Some-default : goal.returns-in-Some-default
returns-in-Some-default g c was h =
    let m = g.E.Engine.meaning in
    let e = handed (IsBack m) was c.in-Some-default.worker.promise.was.value _ _ (rw c.in-Some-default.is-0 refl) h in
    subst (λ (t : TellerValue). IsBack m t c.join.result) e c.join.ensures
