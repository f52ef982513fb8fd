use Rattle.std.proofs.Common.{◌≡◌, ◌<◌, ◌∙◌, length, drop, sym, ap, subst}
use Rattle.tri_base.specs.declared.leg.Side.TheVariants.{Right}
use Rattle.leg_laws.specs.declared.place.Place.{Place}
use Rattle.leg_laws.specs.declared.place.Place.TheVariants as p
use Rattle.leg_laws.specs.Configs.{LegValue, place_of}
use Rattle.leg_core.specs.Inner.Fit.{puts_done}
use Rattle.leg_core.proofs.Ahead.{rows_from, some_1}
use Rattle.leg_core.proofs.Stands.{has_put, place_kept}
use Rattle.leg_core.proofs.leg_run.LegRun.give_right_readings.Goals as goal

pub next_row-row-requires : goal.next_row-row-requires
next_row-row-requires g c =
    let s = c.self.inside in
    let i = c.self.invariant.1 in
    let at : s.place ≡ p.PutRightReadings = sym (place_kept s.starved s.place _ _ _ _ _) ∙ ap (λ (v : LegValue). place_of v.config) c.self.view_is ∙ c.requires.place in
    let scan : s.finished < length s.tape.scans = subst (λ (v : LegValue). v.finished < length v.tape.scans) (sym c.self.view_is) (has_put c.args.self.now Right c.requires.need) in
    some_1 s.tape s.finished s.long.items scan (i.long ∙ ap (λ (place : Place). drop (puts_done place) (rows_from s.tape s.finished)) at)
