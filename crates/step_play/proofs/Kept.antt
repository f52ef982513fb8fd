-- What steps leave as it is: how many notes were taken away, and the points.
use Rattle.std.proofs.Common.{◌≡◌, ◌∙◌, ℕ, zero, suc, ◌+◌, ◌*◌, ℤ, Bool, true, false, List, [], ◌∷◌, ◌++◌, length, Option, Some, None, refl, sym, ap, subst, arith}
use Rattle.tri_base.specs.declared.leg.Leg.{Leg}
use Rattle.tri_base.specs.declared.leg.Leg.TheVariants.{A, B, C}
use Rattle.tri_base.specs.declared.leg.Side.TheVariants.{Left, Right}
use Rattle.tri_base.specs.declared.leg.Triple.{Triple}
use Rattle.tri_base.specs.declared.point.Point.{Point}
use Rattle.tri_base.specs.Legs.{leg_part, left_of, right_of}
use Rattle.engine_face.specs.Meaning.{Meaning}
use Rattle.leg_laws.specs.declared.need.Need.{Need}
use Rattle.leg_laws.specs.declared.need.Need.TheVariants.{Put, Take, Done}
use Rattle.leg_laws.specs.Configs.{LegValue, is_starved, need_of}
use Rattle.leg_laws.specs.Exchanges.{Exchange, with_part}
use Rattle.leg_laws.specs.ExchangeSteps.{ExchangeStep, Puts, Reaches, Serves, Takes, exchange_at_start}
use Rattle.leg_laws.specs.Plays.{Play}

-- ---- notes that were taken away

put_given : (m : Meaning) (v v' : LegValue) (packet : List ℤ) → Puts m v v' packet → v'.given ≡ v.given
put_given m v v' packet h = by (is_starved v') refl
  where
    by : (b : Bool) → is_starved v' ≡ b → v'.given ≡ v.given
    by false e = ap (λ (x : LegValue). x.given) (h.fed e)
    by true e = ap (λ (x : LegValue). x.given) (h.out e)

take_given : (m : Meaning) (v v' : LegValue) (packet : List ℤ) → Takes m v v' packet → v'.given ≡ v.given
take_given m v v' packet h = by (is_starved v') refl
  where
    by : (b : Bool) → is_starved v' ≡ b → v'.given ≡ v.given
    by false e = ap (λ (x : LegValue). x.given) (h.fed e)
    by true e = ap (λ (x : LegValue). x.given) (h.out e)

part_given : (legs : Triple LegValue) (leg x : Leg) (v' : LegValue) → v'.given ≡ (leg_part legs leg).given
    → (leg_part (with_part leg v' legs) x).given ≡ (leg_part legs x).given
part_given legs A A v' h = h
part_given legs A B v' h = refl
part_given legs A C v' h = refl
part_given legs B A v' h = refl
part_given legs B B v' h = h
part_given legs B C v' h = refl
part_given legs C A v' h = refl
part_given legs C B v' h = refl
part_given legs C C v' h = h

serve_given : (m : List Point → Meaning) (w w' : Exchange) (leg x : Leg) (n : Need) → Serves m w leg n w'
    → (leg_part w'.legs x).given ≡ (leg_part w.legs x).given
serve_given m w w' leg x (Put side) s =
    let v = leg_part w.legs leg in
    ap (λ (u : Exchange). (leg_part u.legs x).given) s.4
    ∙ part_given w.legs leg x s.1 (put_given (m v.points) v s.1 s.0 s.3)
serve_given m w w' leg x (Take side) s =
    let v = leg_part w.legs leg in
    ap (λ (u : Exchange). (leg_part u.legs x).given) s.4
    ∙ part_given w.legs leg x s.1 (take_given (m v.points) v s.1 s.0 s.3)
serve_given m w w' leg x Done s = absurd s

pub reach_given : (m : List Point → Meaning) (steps : List Leg) (w w' : Exchange) (x : Leg) → Reaches m w steps w'
    → (leg_part w'.legs x).given ≡ (leg_part w.legs x).given
reach_given m [] w w' x r = ap (λ (u : Exchange). (leg_part u.legs x).given) (sym r)
reach_given m (leg ∷ steps) w w' x r =
    reach_given m steps r.0 w' x r.2 ∙ serve_given m w r.0 leg x (need_of (leg_part w.legs leg)) r.1

pub start_given : (m : Meaning) (play : Play) (x : Leg) → (leg_part (exchange_at_start m play).legs x).given ≡ 0
start_given m play A = refl
start_given m play B = refl
start_given m play C = refl

-- ---- the points of a leg

put_points : (m : Meaning) (v v' : LegValue) (packet : List ℤ) → Puts m v v' packet → v'.points ≡ v.points
put_points m v v' packet h = by (is_starved v') refl
  where
    by : (b : Bool) → is_starved v' ≡ b → v'.points ≡ v.points
    by false e = ap (λ (x : LegValue). x.points) (h.fed e)
    by true e = ap (λ (x : LegValue). x.points) (h.out e)

take_points : (m : Meaning) (v v' : LegValue) (packet : List ℤ) → Takes m v v' packet → v'.points ≡ v.points
take_points m v v' packet h = by (is_starved v') refl
  where
    by : (b : Bool) → is_starved v' ≡ b → v'.points ≡ v.points
    by false e = ap (λ (x : LegValue). x.points) (h.fed e)
    by true e = ap (λ (x : LegValue). x.points) (h.out e)

part_points : (legs : Triple LegValue) (leg x : Leg) (v' : LegValue) → v'.points ≡ (leg_part legs leg).points
    → (leg_part (with_part leg v' legs) x).points ≡ (leg_part legs x).points
part_points legs A A v' h = h
part_points legs A B v' h = refl
part_points legs A C v' h = refl
part_points legs B A v' h = refl
part_points legs B B v' h = h
part_points legs B C v' h = refl
part_points legs C A v' h = refl
part_points legs C B v' h = refl
part_points legs C C v' h = h

serve_points : (m : List Point → Meaning) (w w' : Exchange) (leg x : Leg) (n : Need) → Serves m w leg n w'
    → (leg_part w'.legs x).points ≡ (leg_part w.legs x).points
serve_points m w w' leg x (Put side) s =
    let v = leg_part w.legs leg in
    ap (λ (u : Exchange). (leg_part u.legs x).points) s.4
    ∙ part_points w.legs leg x s.1 (put_points (m v.points) v s.1 s.0 s.3)
serve_points m w w' leg x (Take side) s =
    let v = leg_part w.legs leg in
    ap (λ (u : Exchange). (leg_part u.legs x).points) s.4
    ∙ part_points w.legs leg x s.1 (take_points (m v.points) v s.1 s.0 s.3)
serve_points m w w' leg x Done s = absurd s

pub reach_points : (m : List Point → Meaning) (steps : List Leg) (w w' : Exchange) (x : Leg) → Reaches m w steps w'
    → (leg_part w'.legs x).points ≡ (leg_part w.legs x).points
reach_points m [] w w' x r = ap (λ (u : Exchange). (leg_part u.legs x).points) (sym r)
reach_points m (leg ∷ steps) w w' x r =
    reach_points m steps r.0 w' x r.2 ∙ serve_points m w r.0 leg x (need_of (leg_part w.legs leg)) r.1

pub start_points : (m : Meaning) (play : Play) (x : Leg) → (leg_part (exchange_at_start m play).legs x).points ≡ play.points
start_points m play A = refl
start_points m play B = refl
start_points m play C = refl

-- ---- steps and more steps

pub reach_more : (m : List Point → Meaning) (first more : List Leg) (w u w' : Exchange) → Reaches m w first u
    → Reaches m u more w' → Reaches m w (first ++ more) w'
reach_more m [] more w u w' r s = subst (λ (x : Exchange). Reaches m x more w') (sym r) s
reach_more m (leg ∷ first) more w u w' r s = (r.0, r.1, reach_more m first more r.0 u w' r.2 s)
