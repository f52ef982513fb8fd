-- A leg that found no memory stays starved.
use Rattle.std.proofs.Common.{◌≡◌, ℤ, Bool, true, false, List, [], ◌∷◌, refl, sym, ap, subst, ◌∙◌}
use Rattle.tri_base.specs.declared.leg.Leg.{Leg}
use Rattle.tri_base.specs.declared.leg.Leg.TheVariants.{A, B, C}
use Rattle.tri_base.specs.declared.leg.Triple.{Triple}
use Rattle.tri_base.specs.declared.point.Point.{Point}
use Rattle.tri_base.specs.Legs.{leg_part}
use Rattle.engine_face.specs.Meaning.{Meaning}
use Rattle.leg_laws.specs.declared.need.Need.{Need}
use Rattle.leg_laws.specs.declared.need.Need.TheVariants.{Put, Take, Done}
use Rattle.leg_laws.specs.Configs.{LegValue, is_starved, need_of, scan_now}
use Rattle.leg_laws.specs.Needs.{starved}
use Rattle.leg_laws.specs.Exchanges.{Exchange, with_part}
use Rattle.leg_laws.specs.ExchangeSteps.{Puts, Reaches, Serves, Takes}
use Rattle.leg_laws.proofs.Moves.{starves_put, starves_take, true_is_false}

starved_put : (m : Meaning) (v v' : LegValue) (packet : List ℤ) → is_starved v ≡ true → Puts m v v' packet
    → is_starved v' ≡ true
starved_put m v v' packet h puts = by (is_starved v') refl
  where
    by : (t : Bool) → is_starved v' ≡ t → t ≡ true
    by true e = refl
    by false e =
        let fed : is_starved v' ≡ is_starved v =
        ap is_starved (puts.fed e) ∙ starves_put m (scan_now v) v.config in
        absurd (true_is_false (sym h ∙ (sym fed ∙ e)))

starved_take : (m : Meaning) (v v' : LegValue) (packet : List ℤ) → is_starved v ≡ true → Takes m v v' packet
    → is_starved v' ≡ true
starved_take m v v' packet h takes = by (is_starved v') refl
  where
    by : (t : Bool) → is_starved v' ≡ t → t ≡ true
    by true e = refl
    by false e =
        let fed : is_starved v' ≡ is_starved v =
        ap is_starved (takes.fed e) ∙ starves_take m v (scan_now v) packet v.config in
        absurd (true_is_false (sym h ∙ (sym fed ∙ e)))

pub goes_on_starved : (m : Meaning) (v v' : LegValue) (packet : List ℤ) → is_starved v ≡ true
    → (Puts m v v' packet → (packet ≡ []) × (v' ≡ starved v)) × (Takes m v v' packet → v' ≡ starved v)
goes_on_starved m v v' packet h = (
  λ puts. let t = starved_put m v v' packet h puts in (puts.nothing t, puts.out t),
  λ takes. takes.out (starved_take m v v' packet h takes),
)

-- of two legs with another value for one of them, a leg is starved as before
with_starved : (legs : Triple LegValue) (leg x : Leg) (v : LegValue)
    → (is_starved (leg_part legs leg) ≡ true → is_starved v ≡ true) → is_starved (leg_part legs x) ≡ true
    → is_starved (leg_part (with_part leg v legs) x) ≡ true
with_starved legs A A v e h = e h
with_starved legs A B v e h = h
with_starved legs A C v e h = h
with_starved legs B A v e h = h
with_starved legs B B v e h = e h
with_starved legs B C v e h = h
with_starved legs C A v e h = h
with_starved legs C B v e h = h
with_starved legs C C v e h = e h

serve_starved : (m : List Point → Meaning) (w w' : Exchange) (leg x : Leg) (n : Need) → Serves m w leg n w'
    → is_starved (leg_part w.legs x) ≡ true → is_starved (leg_part w'.legs x) ≡ true
serve_starved m w w' leg x (Put side) s h =
    let v = leg_part w.legs leg in
    subst (λ (u : Exchange). is_starved (leg_part u.legs x) ≡ true) (sym s.4)
    (with_starved w.legs leg x s.1 (λ e. starved_put (m v.points) v s.1 s.0 e s.3) h)
serve_starved m w w' leg x (Take side) s h =
    let v = leg_part w.legs leg in
    subst (λ (u : Exchange). is_starved (leg_part u.legs x) ≡ true) (sym s.4)
    (with_starved w.legs leg x s.1 (λ e. starved_take (m v.points) v s.1 s.0 e s.3) h)
serve_starved m w w' leg x Done s h = absurd s

pub stays_starved : (m : List Point → Meaning) (steps : List Leg) (w w' : Exchange) (x : Leg) → Reaches m w steps w'
    → is_starved (leg_part w.legs x) ≡ true → is_starved (leg_part w'.legs x) ≡ true
stays_starved m [] w w' x r h = subst (λ (u : Exchange). is_starved (leg_part u.legs x) ≡ true) r h
stays_starved m (leg ∷ steps) w w' x r h =
    stays_starved m steps r.0 w' x r.2 (serve_starved m w r.0 leg x (need_of (leg_part w.legs leg)) r.1 h)
