-- Each step leaves one need less to be served.
use Rattle.std.specs.Result.{is_err}
use Rattle.std.proofs.Common.{◌≡◌, ◌∙◌, ℕ, ◌+◌, ◌*◌, ◌-◌, ◌<◌, ◌≤◌, true, false, Bool, List, [], ◌∷◌, ◌++◌, length, Result, Ok, Err, IsOk, OnOk, true≢false, Option, Some, None, if◌then◌else◌, refl, sym, ap, subst, arith}
use Rattle.tri_base.specs.declared.leg.Leg.{Leg}
use Rattle.tri_base.specs.declared.leg.Leg.TheVariants.{A, B, C}
use Rattle.tri_base.specs.declared.leg.Triple.{Triple}
use Rattle.tri_base.specs.declared.point.Point.{Point}
use Rattle.tri_base.specs.Legs.{leg_part}
use Rattle.engine_face.specs.Meaning.{Meaning}
use Rattle.leg_laws.specs.declared.need.Need.{Need}
use Rattle.leg_laws.specs.declared.need.Need.TheVariants.{Put, Take, Done}
use Rattle.leg_laws.specs.declared.place.Place.{Place}
use Rattle.leg_laws.specs.declared.place.Place.TheVariants as p
use Rattle.leg_laws.specs.Places.{finished_after, next_place, served}
use Rattle.leg_laws.specs.Configs.{LegValue, need_of, place_of}
use Rattle.leg_laws.specs.Counts.{needs_served}
use Rattle.leg_laws.specs.Exchanges.{Exchange, can_step, with_part}
use Rattle.leg_laws.specs.ExchangeSteps.{ExchangeStep, Serves}
use Rattle.leg_laws.proofs.Reached.{steps_on}
use Rattle.lockstep.specs.declared.serving.NotEnabled.{NotEnabled}
use Rattle.lockstep.specs.Following.{LeadsTo}
use Rattle.leg_laws.proofs.Moves.{At, GoesOn, at_put, at_take, put_goes, take_goes}

-- the needs that a leg has yet to serve
abbrev pub to_serve : LegValue → ℕ
to_serve v = 8 * length v.tape.scans - needs_served v

-- those of the three legs
abbrev pub all_to_serve : Exchange → ℕ
all_to_serve w = to_serve w.legs.a + to_serve w.legs.b + to_serve w.legs.c

record Rises (place : Place) : Type 0 where
  pub by_one : (n : ℕ) → 8 * finished_after place n + served (next_place place) ≡ 8 * n + served place + 1
  pub most : served place ≤ 7

rises : (place : Place) → Rises place
rises p.PutLeftReadings = record { by_one = λ n. omega arith; most = omega arith }
rises p.PutRightReadings = record { by_one = λ n. omega arith; most = omega arith }
rises p.TakeLeftReadings = record { by_one = λ n. omega arith; most = omega arith }
rises p.TakeRightReadings = record { by_one = λ n. omega arith; most = omega arith }
rises p.PutLeftResult = record { by_one = λ n. omega arith; most = omega arith }
rises p.PutRightResult = record { by_one = λ n. omega arith; most = omega arith }
rises p.TakeLeftResult = record { by_one = λ n. omega arith; most = omega arith }
rises p.TakeRightResult = record { by_one = λ n. omega arith; most = omega arith }

fewer : (v v' : LegValue) → v.finished < length v.tape.scans → GoesOn v v' → to_serve v' < to_serve v
fewer v v' scan g =
    let r = rises (place_of v.config) in
    let e : needs_served v' ≡ 8 * finished_after (place_of v.config) v.finished + served (next_place (place_of v.config)) =
    λ i. 8 * g.finished i + served (g.place i) in
    omega (arith, e, r.by_one v.finished, r.most, scan, g.scans)

part_fewer : (legs : Triple LegValue) (leg : Leg) (v' : LegValue) → to_serve v' < to_serve (leg_part legs leg)
    → to_serve (with_part leg v' legs).a + to_serve (with_part leg v' legs).b + to_serve (with_part leg v' legs).c
    < to_serve legs.a + to_serve legs.b + to_serve legs.c
part_fewer legs A v' h = omega (arith, h)
part_fewer legs B v' h = omega (arith, h)
part_fewer legs C v' h = omega (arith, h)

by_need : (m : List Point → Meaning) (w w' : Exchange) (leg : Leg) (n : Need) → need_of (leg_part w.legs leg) ≡ n
    → Serves m w leg n w' → all_to_serve w' < all_to_serve w
by_need m w w' leg (Put side) e s =
    let v = leg_part w.legs leg in
    let at = at_put v side e in
    subst (λ (u : Exchange). all_to_serve u < all_to_serve w) (sym s.4)
    (part_fewer w.legs leg s.1 (fewer v s.1 at.scan (put_goes (m v.points) v s.1 s.0 side at.need_is s.3)))
by_need m w w' leg (Take side) e s =
    let v = leg_part w.legs leg in
    let at = at_take v side e in
    subst (λ (u : Exchange). all_to_serve u < all_to_serve w) (sym s.4)
    (part_fewer w.legs leg s.1 (fewer v s.1 at.scan (take_goes (m v.points) v s.1 s.0 side at.need_is s.3)))
by_need m w w' leg Done e s = absurd s

pub one_less : (m : List Point → Meaning) (w w' : Exchange) (leg : Leg) → ExchangeStep m w leg w'
    → all_to_serve w' < all_to_serve w
one_less m w w' leg s = by_need m w w' leg (need_of (leg_part w.legs leg)) refl s

-- ---- the first leg that is enabled can step

first_can : (a b c : Bool) (leg : Leg) (can : Leg → Bool) → can A ≡ a → can B ≡ b → can C ≡ c
    → (if a then Some A else (if b then Some B else (if c then Some C else None))) ≡ Some leg → can leg ≡ true
first_can true b c leg can ea eb ec h = let same : A ≡ leg = cc in ap can (sym same) ∙ ea
first_can false true c leg can ea eb ec h = let same : B ≡ leg = cc in ap can (sym same) ∙ eb
first_can false false true leg can ea eb ec h = let same : C ≡ leg = cc in ap can (sym same) ∙ ec
first_can false false false leg can ea eb ec h = absurd (cc)

pub first_steps : (w : Exchange) (leg : Leg)
    → (if can_step w A then Some A else (if can_step w B then Some B else (if can_step w C then Some C else None))) ≡ Some leg
    → can_step w leg ≡ true
first_steps w leg h = first_can (can_step w A) (can_step w B) (can_step w C) leg (can_step w) refl refl refl h

-- ---- a step that was answered

err_is_none : (x : NotEnabled) → IsOk {T = Unit {0}} {E = NotEnabled} (Err x) → ⊥
err_is_none x h = true≢false (sym h)

-- a step that is enabled is no error
pub not_err : (r : Result (Unit {0}) NotEnabled) (P : Type 0) → (IsOk r → P) × (P → IsOk r) → P → is_err r ≡ true → ⊥
not_err (Ok u) P both p e = true≢false (sym e)
not_err (Err x) P both p e = err_is_none x (both.1 p)

-- one that is none was done
pub done : (r : Result (Unit {0}) NotEnabled) (P : Type 0) → OnOk r P → is_err r ≡ false → P
done (Ok u) P p e = p
done (Err x) P p e = absurd (true≢false e)

pub one_more : (m : List Point → Meaning) (w u w' : Exchange) (leg : Leg) → LeadsTo m w u → ExchangeStep m u leg w'
    → LeadsTo m w w'
one_more m w u w' leg before s = (before.0 ++ leg ∷ [], steps_on m before.0 leg w u w' before.1 s)
