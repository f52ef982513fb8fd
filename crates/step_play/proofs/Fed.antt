-- Steps of legs that have memory are those of the schedule's letters.
use Rattle.std.proofs.Common.{◌≡◌, ◌∙◌, ℕ, zero, suc, ◌+◌, ◌<◌, ℤ, Bool, true, false, List, [], ◌∷◌, length, take, get_or, Option, Some, None, is_none, is_some, unwrap_or, if◌then◌else◌, refl, sym, ap, subst, arith, true≢false}
use Rattle.tri_base.specs.declared.leg.Leg.{Leg}
use Rattle.tri_base.specs.declared.leg.Leg.TheVariants.{A, B, C}
use Rattle.tri_base.specs.declared.leg.Triple.{Triple}
use Rattle.tri_base.specs.declared.point.Point.{Point}
use Rattle.tri_base.specs.Legs.{leg_part, neighbour, opposite}
use Rattle.engine_face.specs.Meaning.{Meaning}
use Rattle.leg_laws.specs.declared.need.Need.{Need}
use Rattle.leg_laws.specs.declared.need.Need.TheVariants.{Put, Take, Done}
use Rattle.leg_laws.specs.Configs.{LegValue, is_starved, need_of}
use Rattle.leg_laws.specs.Exchanges.{Exchange, box_towards, can_serve, can_step, with_box_of, with_part}
use Rattle.leg_laws.specs.ExchangeSteps.{ExchangeStep, Reaches, Serves}
use Rattle.leg_laws.specs.InStep.{NoneStarved}
use Rattle.leg_laws.specs.Needs.{after_take}
use Rattle.leg_laws.specs.Schedules.{fed_step, served_by, stuck_from}
use Rattle.leg_laws.proofs.Starving.{stays_starved}
use Rattle.lockstep.specs.Following.{StopsAt}

own : (leg : Leg) (v : LegValue) (legs : Triple LegValue) → leg_part (with_part leg v legs) leg ≡ v
own A v legs = refl
own B v legs = refl
own C v legs = refl

record IsFed (m : List Point → Meaning) (w : Exchange) (leg : Leg) (n : Need) (w' : Exchange) : Type 0 where
  pub can : can_serve w leg n ≡ true
  pub is : w' ≡ served_by m w leg n

fed_need : (m : List Point → Meaning) (w w' : Exchange) (leg : Leg) (n : Need) → Serves m w leg n w'
    → is_starved (leg_part w'.legs leg) ≡ false → IsFed m w leg n w'
fed_need m w w' leg (Put side) s f =
    let h : is_starved s.1 ≡ false =
    ap is_starved (sym (own leg s.1 w.legs)) ∙ (ap (λ (u : Exchange). is_starved (leg_part u.legs leg)) (sym s.4) ∙ f) in
    record {
      can = ap (λ (b : Option (List ℤ)). is_none b) s.2;
      is = s.4 ∙ (λ i. record { legs = with_part leg (s.3.fed h i) w.legs; boxes = with_box_of w leg side (Some (s.3.packet_is h i)) });
    }
fed_need m w w' leg (Take side) s f =
    let v = leg_part w.legs leg in
    let h : is_starved s.1 ≡ false =
    ap is_starved (sym (own leg s.1 w.legs)) ∙ (ap (λ (u : Exchange). is_starved (leg_part u.legs leg)) (sym s.4) ∙ f) in
    let packet : s.0 ≡ unwrap_or (box_towards w leg side) [] = sym (ap (λ (b : Option (List ℤ)). unwrap_or b []) s.2) in
    let v' : s.1 ≡ after_take (m v.points) v (unwrap_or (box_towards w leg side) []) = s.3.fed h ∙ ap (after_take (m v.points) v) packet in
    record {
      can = ap (λ (b : Option (List ℤ)). is_some b) s.2;
      is = s.4 ∙ (λ i. record { legs = with_part leg (v' i) w.legs; boxes = with_box_of w (neighbour leg side) (opposite side) None });
    }
fed_need m w w' leg Done s f = absurd s

fed : (m : List Point → Meaning) (w w' : Exchange) (leg : Leg) → ExchangeStep m w leg w'
    → is_starved (leg_part w'.legs leg) ≡ false → IsFed m w leg (need_of (leg_part w.legs leg)) w'
fed m w w' leg s f = fed_need m w w' leg (need_of (leg_part w.legs leg)) s f

-- a leg that has memory had it before
pub fed_before : (m : List Point → Meaning) (steps : List Leg) (u w : Exchange) (x : Leg) → Reaches m u steps w
    → is_starved (leg_part w.legs x) ≡ false → is_starved (leg_part u.legs x) ≡ false
fed_before m steps u w x r f = by (is_starved (leg_part u.legs x)) refl
  where
    by : (b : Bool) → is_starved (leg_part u.legs x) ≡ b → is_starved (leg_part u.legs x) ≡ false
    by false e = e
    by true e = absurd (true≢false (sym (stays_starved m steps u w x r e) ∙ f))

-- letters that were all stepped are not stuck
pub goes : (m : List Point → Meaning) (n : ℕ) (letters : List Leg) (w w' : Exchange) → Reaches m w letters w'
    → NoneStarved (leg_part w'.legs) → stuck_from m n letters w ≡ None
goes m n [] w w' r none = refl
goes m n (leg ∷ legs) w w' r none =
    let f = fed m w r.0 leg r.1 (fed_before m legs r.0 w' leg r.2 (none leg)) in
    ap (λ (b : Bool). if b then stuck_from m (n + 1) legs (fed_step m w leg) else Some n) f.can
    ∙ (ap (stuck_from m (n + 1) legs) (sym f.is) ∙ goes m (n + 1) legs r.0 w' r.2 none)

-- letters up to one are stuck at it
pub stuck : (m : List Point → Meaning) (n : ℕ) (letters : List Leg) (w w' : Exchange) (place : ℕ)
    → StopsAt m w w' letters place → NoneStarved (leg_part w'.legs) → stuck_from m n letters w ≡ Some (n + place)
stuck m n [] w w' place h none = absurd (omega (arith, h.there))
stuck m n (leg ∷ legs) w w' zero h none =
    let here : can_step w leg ≡ false = ap (λ (u : Exchange). can_step u leg) h.reached ∙ h.stuck in
    let number : n ≡ n + 0 = omega arith in
    ap (λ (b : Bool). if b then stuck_from m (n + 1) legs (fed_step m w leg) else Some n) here
    ∙ ap (λ (k : ℕ). Some k) number
stuck m n (leg ∷ legs) w w' (suc place) h none =
    let r = h.reached in
    let f = fed m w r.0 leg r.1 (fed_before m (take place legs) r.0 w' leg r.2 (none leg)) in
    let number : n + 1 + place ≡ n + suc place = omega arith in
    let behind : StopsAt m r.0 w' legs place = record { there = omega (arith, h.there); reached = r.2; stuck = h.stuck } in
    ap (λ (b : Bool). if b then stuck_from m (n + 1) legs (fed_step m w leg) else Some n) f.can
    ∙ (ap (stuck_from m (n + 1) legs) (sym f.is)
    ∙ (stuck m (n + 1) legs r.0 w' place behind none ∙ ap (λ (k : ℕ). Some k) number))
