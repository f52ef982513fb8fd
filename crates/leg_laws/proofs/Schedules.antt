-- A leg that has memory steps as its needs say.
use Rattle.std.proofs.Common.{◌≡◌, ℤ, true, false, List, [], Option, Some, None, is_none, is_some, unwrap_or, refl, sym, ◌∙◌}
use Rattle.tri_base.specs.declared.leg.Leg.{Leg}
use Rattle.tri_base.specs.declared.point.Point.{Point}
use Rattle.tri_base.specs.Legs.{leg_part}
use Rattle.engine_face.specs.Meaning.{Meaning}
use Rattle.leg_laws.specs.declared.need.Need.{Need}
use Rattle.leg_laws.specs.declared.need.Need.TheVariants.{Put, Take, Done}
use Rattle.leg_laws.specs.Configs.{LegValue, is_starved, need_of, scan_now}
use Rattle.leg_laws.specs.Needs.{after_put, after_take, put_packet}
use Rattle.leg_laws.specs.Exchanges.{Exchange, box_towards, can_serve, can_step, own_box}
use Rattle.leg_laws.specs.ExchangeSteps.{ExchangeStep, Puts, Serves, Takes}
use Rattle.leg_laws.specs.Schedules.{fed_step, served_by}
use Rattle.leg_laws.proofs.Moves.{starves_put, starves_take}

false_is_true : false ≡ true → ⊥
false_is_true e = cc

empty_box : (box : Option (List ℤ)) → is_none box ≡ true → box ≡ None
empty_box None e = refl
empty_box (Some packet) e = absurd (false_is_true e)

full_box : (box : Option (List ℤ)) → is_some box ≡ true → box ≡ Some (unwrap_or box [])
full_box None e = absurd (false_is_true e)
full_box (Some packet) e = refl

fed_puts : (m : Meaning) (v : LegValue) → is_starved v ≡ false → Puts m v (after_put m v) (put_packet v)
fed_puts m v fed =
    let no : is_starved (after_put m v) ≡ true → ⊥ =
    λ e. false_is_true (sym fed ∙ (sym (starves_put m (scan_now v) v.config) ∙ e)) in
    record { packet_is = λ e. refl; fed = λ e. refl; nothing = λ e. absurd (no e); out = λ e. absurd (no e) }

fed_takes : (m : Meaning) (v : LegValue) (packet : List ℤ) → is_starved v ≡ false
    → Takes m v (after_take m v packet) packet
fed_takes m v packet fed =
    let no : is_starved (after_take m v packet) ≡ true → ⊥ =
    λ e. false_is_true (sym fed ∙ (sym (starves_take m v (scan_now v) packet v.config) ∙ e)) in
    record { fed = λ e. refl; out = λ e. absurd (no e) }

pub fed_is_step : (m : List Point → Meaning) (w : Exchange) (leg : Leg) → can_step w leg ≡ true
    → is_starved (leg_part w.legs leg) ≡ false → ExchangeStep m w leg (fed_step m w leg)
fed_is_step m w leg can fed = by (need_of (leg_part w.legs leg)) can
  where
    by : (n : Need) → can_serve w leg n ≡ true → Serves m w leg n (served_by m w leg n)
    by (Put side) e =
        let v = leg_part w.legs leg in
        (put_packet v, after_put (m v.points) v, empty_box (own_box w leg side) e, fed_puts (m v.points) v fed, refl)
    by (Take side) e =
        let v = leg_part w.legs leg in
        let packet : List ℤ = unwrap_or (box_towards w leg side) [] in (
          packet,
          after_take (m v.points) v packet,
          full_box (box_towards w leg side) e,
          fed_takes (m v.points) v packet fed,
          refl,
        )
    by Done e = absurd (false_is_true e)
