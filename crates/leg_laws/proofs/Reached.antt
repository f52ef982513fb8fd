-- Legs that exchange packets step by step note what the three in step note, and end as they do.
use Rattle.std.proofs.Common.{◌≡◌, ◌↔◌, None, ◌+◌, ◌*◌, ◌≤◌, ⊎_elim, true, false, ℤ, List, [], ◌∷◌, length, refl, sym, ap, subst, ◌∙◌, arith, ◌++◌}
use Rattle.std.proofs.lemmas.Bool.{cases_Bool}
use Rattle.tri_base.specs.declared.leg.Leg.{Leg}
use Rattle.tri_base.specs.declared.leg.Leg.TheVariants.{A, B, C}
use Rattle.tri_base.specs.declared.leg.Triple.{Triple}
use Rattle.tri_base.specs.declared.point.Point.{Point}
use Rattle.tri_base.specs.Legs.{leg_part, left_of, right_of}
use Rattle.engine_face.specs.Meaning.{Meaning}
use Rattle.leg_laws.specs.declared.need.Need.{Need}
use Rattle.leg_laws.specs.declared.need.Need.TheVariants.{Put, Take, Done}
use Rattle.leg_laws.specs.Configs.{LegValue, need_of, place_of, is_starved}
use Rattle.leg_laws.specs.Places.{served}
use Rattle.leg_laws.specs.Plays.{Play, HaveEqualScans, play_of, scans_of}
use Rattle.leg_laws.specs.Exchanges.{Exchange, with_part, AllDone, first_enabled}
use Rattle.leg_laws.specs.ExchangeSteps.{ExchangeStep, Puts, Takes, Serves, Reaches, exchange_at_start, IsReached}
use Rattle.leg_laws.specs.SentTaken.{SentTaken, packet_of, Follows}
use Rattle.leg_laws.specs.Counts.{IsCounted}
use Rattle.leg_laws.specs.Links.{Joined, IsFront, Linked}
use Rattle.leg_laws.specs.InStep.{IsInStep}
use Rattle.leg_laws.proofs.Counts.{step_counts}
use Rattle.leg_laws.proofs.Joins.{joined_reached}
use Rattle.leg_laws.proofs.LinkedPlays.{are_in_step}
use Rattle.leg_laws.proofs.Stuck.{none_stuck}
use Rattle.script_text.specs.ScriptValue.{ScriptValue}
use Rattle.script_text.specs.LegScans.{scan_of}
use Rattle.std.proofs.lemmas.List.FromFn.{length-map-range_with_len}
use Rattle.std.specs.Prelude.{option_to_list}
use Rattle.std.proofs.lemmas.List.{get_or_append_left, length-append}

-- ---- letters stay

abbrev Lettered : Exchange → Type 0
Lettered w = (x : Leg) → (leg_part w.legs x).leg ≡ x

put_letter : (m : Meaning) (v v' : LegValue) (packet : List ℤ) → Puts m v v' packet → v'.leg ≡ v.leg
put_letter m v v' packet h = ⊎_elim
    (λ (t : is_starved v' ≡ true). ap (λ (u : LegValue). u.leg) (h.out t))
    (λ (t : is_starved v' ≡ false). ap (λ (u : LegValue). u.leg) (h.fed t))
    (cases_Bool (is_starved v'))

take_letter : (m : Meaning) (v v' : LegValue) (packet : List ℤ) → Takes m v v' packet → v'.leg ≡ v.leg
take_letter m v v' packet h = ⊎_elim
    (λ (t : is_starved v' ≡ true). ap (λ (u : LegValue). u.leg) (h.out t))
    (λ (t : is_starved v' ≡ false). ap (λ (u : LegValue). u.leg) (h.fed t))
    (cases_Bool (is_starved v'))

with_letter : (legs : Triple LegValue) (leg : Leg) (v : LegValue) → v.leg ≡ leg
    → ((x : Leg) → (leg_part legs x).leg ≡ x) → (x : Leg) → (leg_part (with_part leg v legs) x).leg ≡ x
with_letter legs A v e h A = e
with_letter legs A v e h B = h B
with_letter legs A v e h C = h C
with_letter legs B v e h A = h A
with_letter legs B v e h B = e
with_letter legs B v e h C = h C
with_letter legs C v e h A = h A
with_letter legs C v e h B = h B
with_letter legs C v e h C = e

serve_letters : (m : List Point → Meaning) (w w' : Exchange) (leg : Leg) (n : Need) → Serves m w leg n w'
    → Lettered w → Lettered w'
serve_letters m w w' leg (Put side) s h =
    subst Lettered (sym s.4)
    (with_letter w.legs leg s.1 (put_letter (m (leg_part w.legs leg).points) (leg_part w.legs leg) s.1 s.0 s.3
    ∙ h leg) h)
serve_letters m w w' leg (Take side) s h =
    subst Lettered (sym s.4)
    (with_letter w.legs leg s.1 (take_letter (m (leg_part w.legs leg).points) (leg_part w.legs leg) s.1 s.0 s.3
    ∙ h leg) h)
serve_letters m w w' leg Done s h = absurd s

reach_letters : (m : List Point → Meaning) (steps : List Leg) (w w' : Exchange) → Reaches m w steps w' → Lettered w
    → Lettered w'
reach_letters m [] w w' r h = subst Lettered r h
reach_letters m (leg ∷ steps) w w' r h =
    reach_letters m steps r.0 w' r.2 (serve_letters m w r.0 leg (need_of (leg_part w.legs leg)) r.1 h)

start_letters : (m : Meaning) (play : Play) → Lettered (exchange_at_start m play)
start_letters m play A = refl
start_letters m play B = refl
start_letters m play C = refl

-- ---- counts stay

pub start_counts : (m : Meaning) (play : Play) → HaveEqualScans play → IsCounted (exchange_at_start m play)
start_counts m play same = record {
  scans_b = same.0;
  scans_c = same.1;
  within_a = omega arith;
  within_b = omega arith;
  within_c = omega arith;
  left_a = refl;
  left_b = refl;
  left_c = refl;
  right_a = refl;
  right_b = refl;
  right_c = refl;
}

reach_counts : (m : List Point → Meaning) (steps : List Leg) (w w' : Exchange) → Reaches m w steps w' → IsCounted w
    → IsCounted w'
reach_counts m [] w w' r h = subst IsCounted r h
reach_counts m (leg ∷ steps) w w' r h = reach_counts m steps r.0 w' r.2 (step_counts m w r.0 leg h r.1)

within : (w : Exchange) → IsCounted w → (x : Leg)
    → 8 * (leg_part w.legs x).finished + served (place_of (leg_part w.legs x).config) ≤ 8 * length
    (leg_part w.legs x).tape.scans
within w c A = c.within_a
within w c B = c.within_b
within w c C = c.within_c

-- ---- what is joined is linked

is_front : (taken sent : List (List ℤ)) (rest : List (List ℤ)) → sent ≡ taken ++ rest → IsFront taken sent
is_front taken sent rest e = (
  omega (arith, ap length e, length-append taken rest),
  λ r h. sym (ap (λ (l : List (List ℤ)). packet_of l r) e ∙ get_or_append_left taken rest [] r h),
)

module _ (m : Meaning) (play : Play) (w : Exchange) (t : Triple SentTaken) (j : Joined m play w t) where
  follows : (leg : Leg) → Follows m play (leg_part w.legs leg) (leg_part t leg)
  follows A = j.follows_a
  follows B = j.follows_b
  follows C = j.follows_c

  linked : Linked (leg_part t)
  linked = record { from_left = left; from_right = right }
    where
      left : (x : Leg) → IsFront (leg_part t x).taken_left (leg_part t (left_of x)).sent_right
      left A = is_front t.a.taken_left t.c.sent_right (option_to_list w.boxes.c.right) j.right_c
      left B = is_front t.b.taken_left t.a.sent_right (option_to_list w.boxes.a.right) j.right_a
      left C = is_front t.c.taken_left t.b.sent_right (option_to_list w.boxes.b.right) j.right_b

      right : (x : Leg) → IsFront (leg_part t x).taken_right (leg_part t (right_of x)).sent_left
      right A = is_front t.a.taken_right t.b.sent_left (option_to_list w.boxes.b.left) j.left_b
      right B = is_front t.b.taken_right t.c.sent_left (option_to_list w.boxes.c.left) j.left_c
      right C = is_front t.c.taken_right t.a.sent_left (option_to_list w.boxes.a.left) j.left_a

-- ---- in step

pub stay_in_step : (m : List Point → Meaning) (play : Play) (steps : List Leg) (w : Exchange) → HaveEqualScans play
    → IsReached m play steps w → IsInStep (m play.points) play (leg_part w.legs)
stay_in_step m play steps w same r =
    let start : Exchange = exchange_at_start (m play.points) play in
    let own = reach_letters m steps start w r (start_letters (m play.points) play) in
    let counted = reach_counts m steps start w r (start_counts (m play.points) play same) in
    let js = joined_reached m play steps w r in
    are_in_step (m play.points) play (leg_part w.legs) (leg_part js.0) own
    (follows (m play.points) play w js.0 js.1) (linked (m play.points) play w js.0 js.1) (within w counted)

-- ---- the tapes of a script

tape_length : (v : ScriptValue) (leg : Leg) → scans_of (play_of v) leg ≡ v.scans
tape_length v A = length-map-range_with_len (scan_of v A) 1 v.scans
tape_length v B = length-map-range_with_len (scan_of v B) 1 v.scans
tape_length v C = length-map-range_with_len (scan_of v C) 1 v.scans

pub equal_tapes : (v : ScriptValue) → HaveEqualScans (play_of v)
equal_tapes v = (tape_length v B ∙ sym (tape_length v A), tape_length v C ∙ sym (tape_length v A))

pub scripts_stay_in_step : (m : List Point → Meaning) (v : ScriptValue) (steps : List Leg) (w : Exchange)
    → IsReached m (play_of v) steps w → IsInStep (m v.points) (play_of v) (leg_part w.legs)
scripts_stay_in_step m v steps w r = stay_in_step m (play_of v) steps w (equal_tapes v) r

-- ---- never stuck

pub never_stuck : (m : List Point → Meaning) (play : Play) (steps : List Leg) (w : Exchange) → HaveEqualScans play
    → IsReached m play steps w → (first_enabled w ≡ None) ↔ AllDone w
never_stuck m play steps w same r =
    none_stuck w
    (reach_counts m steps (exchange_at_start (m play.points) play) w r (start_counts (m play.points) play same))

-- ---- one step more

pub steps_on : (m : List Point → Meaning) (steps : List Leg) (leg : Leg) (w u w' : Exchange) → Reaches m w steps u
    → ExchangeStep m u leg w' → Reaches m w (steps ++ leg ∷ []) w'
steps_on m [] leg w u w' r s = (w', subst (λ (x : Exchange). ExchangeStep m x leg w') (sym r) s, refl)
steps_on m (first ∷ steps) leg w u w' r s = (r.0, r.1, steps_on m steps leg r.0 u w' r.2 s)
