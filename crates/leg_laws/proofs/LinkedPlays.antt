-- Three legs that follow a play on linked packets are in step.
use Rattle.std.proofs.Common.{◌≡◌, ℕ, ◌+◌, ◌-◌, ◌*◌, ◌≤◌, ℤ, List, length, take, drop, refl, ap, subst, ◌∙◌, arith}
use Rattle.std.proofs.lemmas.Bool.{ltb-false}
use Rattle.tri_base.specs.declared.leg.Leg.{Leg}
use Rattle.tri_base.specs.declared.leg.Side.{Side}
use Rattle.tri_base.specs.declared.leg.Side.TheVariants.{Left, Right}
use Rattle.engine_face.specs.Meaning.{Meaning}
use Rattle.leg_laws.specs.declared.place.Place.{Place}
use Rattle.leg_laws.specs.declared.place.Place.TheVariants as p
use Rattle.fault_history.specs.Notes.{NoteData}
use Rattle.leg_laws.specs.Configs.{LegValue, place_of, noted, need_of}
use Rattle.leg_laws.specs.Plays.{Play, scan_behind, scans_of}
use Rattle.leg_laws.specs.Rounds.{Standing, in_step, after_scans}
use Rattle.leg_laws.specs.SentTaken.{SentTaken, packet_of, by_taken, sent_on, PutsIn, StandsAt, Follows, config_of}
use Rattle.leg_laws.specs.Counts.{rounds_done, served_in_round, IsWithin}
use Rattle.leg_laws.specs.Places.{served, need_at}
use Rattle.leg_laws.specs.Links.{Linked, Honest}
use Rattle.leg_laws.specs.InStep.{HasFirstNotes, HasNotes, NotedByAll, NoneStarved, HasEnded, IsInStep}
use Rattle.leg_laws.proofs.Moves.{one_most}
use Rattle.leg_laws.proofs.Ring.{one_play}
use Rattle.leg_laws.specs.declared.need.Need.TheVariants.{Done}
use Rattle.leg_laws.specs.Endings.{ending_of}
use Rattle.script_text.specs.LegScans.{TapeValue}
use Rattle.std.specs.Prelude.{nat_lt, Bool, false, true, if◌then◌else◌}
use Rattle.leg_laws.proofs.Scans.{all_before}
use Rattle.leg_laws.proofs.TakenRounds.{cut, front, has_notes}

-- ---- a leg whose last scan is over

not_done : (place : Place) → need_at place ≡ Done → ⊥
not_done p.PutLeftReadings e = cc
not_done p.PutRightReadings e = cc
not_done p.TakeLeftReadings e = cc
not_done p.TakeRightReadings e = cc
not_done p.PutLeftResult e = cc
not_done p.PutRightResult e = cc
not_done p.TakeLeftResult e = cc
not_done p.TakeRightResult e = cc

pub done_by : (place : Place) (b : Bool) → (if b then need_at place else Done) ≡ Done → b ≡ false
done_by place true e = absurd (not_done place e)
done_by place false e = refl

pub first_place : (place : Place) → served place ≡ 0 → place ≡ p.PutLeftReadings
first_place p.PutLeftReadings e = refl
first_place p.PutRightReadings e = absurd (omega (arith, e))
first_place p.TakeLeftReadings e = absurd (omega (arith, e))
first_place p.TakeRightReadings e = absurd (omega (arith, e))
first_place p.PutLeftResult e = absurd (omega (arith, e))
first_place p.PutRightResult e = absurd (omega (arith, e))
first_place p.TakeLeftResult e = absurd (omega (arith, e))
first_place p.TakeRightResult e = absurd (omega (arith, e))

module _ (m : Meaning) (play : Play) (vs : Leg → LegValue) (ls : Leg → SentTaken)
    (own : (leg : Leg) → (vs leg).leg ≡ leg)
    (follows : (leg : Leg) → Follows m play (vs leg) (ls leg)) (linked : Linked ls) where
  honest : (rounds : ℕ) → ((x : Leg) → PutsIn m play x (ls x) rounds) → Honest m play ls rounds
  honest rounds puts = record { puts = puts; left = left; right = right }
    where
      left : (x : Leg) (side : Side) → length (sent_on side (ls x)) ≤ length (ls x).taken_left + 1
      left x Left =
          let c = (follows x).counted in
          omega (arith, c.sent_left, c.taken_left, one_most 1 (served_in_round (vs x)))
      left x Right =
          let c = (follows x).counted in
          omega (arith, c.sent_right, c.taken_left, one_most 2 (served_in_round (vs x)))

      right : (x : Leg) (side : Side) → length (sent_on side (ls x)) ≤ length (ls x).taken_right + 1
      right x Left =
          let c = (follows x).counted in
          omega (arith, c.sent_left, c.taken_right, one_most 1 (served_in_round (vs x)))
      right x Right =
          let c = (follows x).counted in
          omega (arith, c.sent_right, c.taken_right, one_most 2 (served_in_round (vs x)))

  early_puts : (n : ℕ) → NotedByAll vs n → (x : Leg) → PutsIn m play x (ls x) (2 * n)
  early_puts n h x side r rb l =
      subst (λ (leg : Leg). PutsIn m play leg (ls x) (2 * noted (vs x))) (own x)
      (follows x).early_puts side r (omega (arith, rb, h x)) l

  early_play : (n : ℕ) → NotedByAll vs n → (x : Leg)
      → by_taken m play x (ls x) (2 * n) ≡ in_step m play x (2 * n)
  early_play n h x =
      let f = follows x in
      one_play m play ls (2 * n) linked (honest (2 * n) (early_puts n h)) (2 * n) x (omega arith)
      (omega (arith, h x, f.behind, f.counted.taken_left)) (omega (arith, h x, f.behind, f.counted.taken_right))

  early_notes : (n : ℕ) → NotedByAll vs n → (x : Leg) → HasFirstNotes m play x (vs x) n
  early_notes n h x =
      let v = vs x in
      let l = ls x in
      let k : ℕ = noted v in
      let all : List NoteData = (by_taken m play x l (2 * k)).notes in
      let mine : v.notes ≡ drop v.given all =
      subst (λ (leg : Leg). v.notes ≡ drop v.given (by_taken m play leg l (2 * k)).notes) (own x)
      (follows x).early_notes in
      let there : take n all ≡ (after_scans m play x n).notes =
      front m play x l n k (h x) ∙ ap (λ (s : Standing). s.notes) (early_play n h x) in
      ap (λ ns. take (n - v.given) ns) mine ∙ (cut n v.given all ∙ ap (λ ns. drop v.given ns) there)

  -- ---- with no leg starved

  fed_puts : NoneStarved vs → (rounds : ℕ) (x : Leg) → PutsIn m play x (ls x) rounds
  fed_puts h rounds x =
      subst (λ (leg : Leg). PutsIn m play leg (ls x) rounds) (own x) ((follows x).puts (h x) rounds)

  fed_play : NoneStarved vs → (x : Leg) (r : ℕ) → r ≤ rounds_done (vs x)
      → by_taken m play x (ls x) r ≡ in_step m play x r
  fed_play h x r b =
      let c = (follows x).counted in
      one_play m play ls r linked (honest r (fed_puts h r)) r x (omega arith)
      (omega (arith, b, c.taken_left)) (omega (arith, b, c.taken_right))

  by_own : NoneStarved vs → (x : Leg)
      → StandsAt m play (vs x) (ls x) (by_taken m play x (ls x) (rounds_done (vs x)))
  by_own h x =
      subst (λ (leg : Leg). StandsAt m play (vs x) (ls x) (by_taken m play leg (ls x) (rounds_done (vs x))))
      (own x) ((follows x).stands (h x))

  fed_notes : NoneStarved vs → (x : Leg) → HasNotes m play x (vs x)
  fed_notes h x =
      has_notes m play x (vs x) (ls x) (by_own h x) (fed_play h x (2 * (vs x).finished) (omega arith))

  -- ---- the end

  module _ (within : (x : Leg) → IsWithin (vs x)) where
    scans_are : (x : Leg) → length (vs x).tape.scans ≡ scans_of play x
    scans_are x =
        ap (λ (tape : TapeValue). length tape.scans) (follows x).tape ∙ ap (λ (y : Leg). scans_of play y) (own x)

    -- where a leg that is done stands
    record AtEnd (x : Leg) : Type 0 where
      finished : (vs x).finished ≡ scans_of play x
      place : place_of (vs x).config ≡ p.PutLeftReadings
      rounds : rounds_done (vs x) ≡ 2 * scans_of play x

    at_end : (x : Leg) → need_of (vs x) ≡ Done → AtEnd x
    at_end x done =
        let v : LegValue = vs x in
        let past : length v.tape.scans ≤ v.finished =
        ltb-false v.finished (length v.tape.scans)
        (done_by (place_of v.config) (nat_lt v.finished (length v.tape.scans)) done) in
        let is : v.finished ≡ scans_of play x = omega (arith, past, within x, scans_are x) in
        let none : served (place_of v.config) ≡ 0 = omega (arith, past, within x) in
        record { finished = is; place = first_place (place_of v.config) none; rounds = omega (arith, none, is) }

    ended : NoneStarved vs → (x : Leg) → need_of (vs x) ≡ Done → HasEnded m play x (vs x)
    ended fed x done =
        let v : LegValue = vs x in
        let n : ℕ = scans_of play x in
        let e = at_end x done in
        let s : Standing = after_scans m play x n in
        let stands : StandsAt m play v (ls x) s =
        subst (λ (t : Standing). StandsAt m play v (ls x) t)
        (fed_play fed x (rounds_done v) (omega arith) ∙ ap (λ r. in_step m play x r) e.rounds) (by_own fed x) in
        let last : List ℤ = packet_of (ls x).taken_left (rounds_done v) in
        record {
          finished = e.finished;
          ending = ap ending_of (stands.config ∙ (λ i.
              config_of m (scan_behind play v.leg s.finished) last (e.place i) ((all_before m play n x).stand i)));
          marks = stands.marks;
        }

    pub are_in_step : IsInStep m play vs
    are_in_step = record { letters = own; early = early_notes; fed = fed_notes; ends = ended }
