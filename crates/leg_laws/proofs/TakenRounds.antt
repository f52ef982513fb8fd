-- A leg after so many rounds, by what it took: its scans and notes.
use Rattle.std.proofs.Common.{◌≡◌, ℕ, zero, suc, ◌+◌, ◌-◌, ◌*◌, ◌/◌, ◌<◌, ◌≤◌, ℤ, List, [], ◌∷◌, ◌++◌, length, take, drop, refl, sym, ap, subst, ◌∙◌, arith, ⊎_elim, ◌⊎◌, inl, inr, add-one}
use Rattle.std.proofs.lemmas.List.{length-append, take_at, drop-take, drop_all, length-drop, length-take, append_assoc, append-nil}
use Rattle.std.proofs.lemmas.Bool.{cases_lt}
use Rattle.tri_base.specs.declared.leg.Leg.{Leg}
use Rattle.engine_face.specs.Meaning.{Meaning}
use Rattle.leg_laws.specs.declared.place.Place.{Place}
use Rattle.leg_laws.specs.declared.place.Place.TheVariants as p
use Rattle.fault_history.specs.Notes.{NoteData}
use Rattle.leg_laws.specs.Configs.{LegValue, place_of}
use Rattle.leg_laws.specs.Plays.{Play}
use Rattle.leg_laws.specs.Rounds.{Standing, Stand, Before, Within, round, round_at, after_scans}
use Rattle.leg_laws.specs.SentTaken.{SentTaken, packet_of, by_taken, StandsAt}
use Rattle.leg_laws.specs.Counts.{rounds_done}
use Rattle.leg_laws.specs.Places.{served}
use Rattle.leg_laws.specs.InStep.{HasNotes}

-- ---- even rounds

IsBefore : Stand → Type 0
IsBefore (Before state) = Unit {0}
IsBefore (Within half) = ⊥

-- two rounds from before a scan end it with one note more
record OneScan (s u : Standing) : Type 0 where
  pub before : IsBefore u.stand
  pub finished : u.finished ≡ s.finished + 1
  pub note : NoteData
  pub notes : u.notes ≡ s.notes ++ note ∷ []

one_scan : (m : Meaning) (play : Play) (leg : Leg) (s : Standing) (a b c d : List ℤ) → IsBefore s.stand
    → OneScan s (round m play leg (round m play leg s a b) c d)
unfolding IsBefore
one_scan m play leg s a b c d h = by s.stand refl h
  where
    by : (stand : Stand) → s.stand ≡ stand → IsBefore stand → OneScan s (round m play leg (round m play leg s a b) c d)
    by (Before state) e k =
        subst (λ (x : Stand). OneScan s (round m play leg (round_at m play leg s a b x) c d)) (sym e) (record {
          before = tt;
          finished = refl;
          note = _;
          notes = refl;
        })
    by (Within half) e k = absurd k

twice_more : (n : ℕ) → 2 * (n + 1) ≡ (2 * n + 1) + 1
twice_more n = omega arith

module _ (m : Meaning) (play : Play) (leg : Leg) (l : SentTaken) where
  -- a round with the packets of a round
  abbrev on : Standing → ℕ → Standing
  on s r = round m play leg s (packet_of l.taken_left r) (packet_of l.taken_right r)

  next_round : (r : ℕ) → by_taken m play leg l (r + 1) ≡ on (by_taken m play leg l r) r
  unfolding by_taken
  next_round r = rw add-one

  next_scan : (n : ℕ)
      → by_taken m play leg l (2 * (n + 1)) ≡ on (on (by_taken m play leg l (2 * n)) (2 * n)) (2 * n + 1)
  next_scan n =
      ap (λ k. by_taken m play leg l k) (twice_more n) ∙ next_round (2 * n + 1)
      ∙ ap (λ s. on s (2 * n + 1)) (next_round (2 * n))

  even : (n : ℕ)
      → IsBefore (by_taken m play leg l (2 * n)).stand × ((by_taken m play leg l (2 * n)).finished ≡ n) ×
      (length (by_taken m play leg l (2 * n)).notes ≡ n)
  unfolding by_taken IsBefore
  even zero = (tt, refl, refl)
  even (suc n) =
      let h = even n in
      let s : Standing = by_taken m play leg l (2 * n) in
      let o =
      one_scan m play leg s (packet_of l.taken_left (2 * n)) (packet_of l.taken_right (2 * n))
      (packet_of l.taken_left (2 * n + 1)) (packet_of l.taken_right (2 * n + 1)) h.0 in
      let e : by_taken m play leg l (2 * suc n) ≡ _ =
      ap (λ k. by_taken m play leg l (2 * k)) (sym (add-one n)) ∙ next_scan n in (
        subst (λ (x : Standing). IsBefore x.stand) (sym e) o.before,
        ap (λ (x : Standing). x.finished) e
            ∙ (o.finished ∙ omega (arith, h.1)),
        ap (λ (x : Standing). length x.notes) e
            ∙ (ap length o.notes ∙ (length-append s.notes (o.note ∷ []) ∙ omega (arith, h.2))),
      )

  -- later notes come behind
  behind : (n d : ℕ)
      → (rest : List NoteData) ×
      ((by_taken m play leg l (2 * (n + d))).notes ≡ (by_taken m play leg l (2 * n)).notes ++ rest)
  behind n zero = ([], ap (λ k. (by_taken m play leg l (2 * k)).notes) (omega arith) ∙ sym (append-nil _))
  behind n (suc d) =
      let h = behind n d in
      let k : ℕ = n + d in
      let s : Standing = by_taken m play leg l (2 * k) in
      let o =
      one_scan m play leg s (packet_of l.taken_left (2 * k)) (packet_of l.taken_right (2 * k))
      (packet_of l.taken_left (2 * k + 1)) (packet_of l.taken_right (2 * k + 1)) (even k).0 in
      let e : by_taken m play leg l (2 * (n + suc d)) ≡ _ =
      ap (λ k. by_taken m play leg l (2 * k)) (omega arith) ∙ next_scan k in (
        h.0 ++ o.note ∷ [],
        ap (λ (x : Standing). x.notes) e
            ∙ (o.notes
            ∙ (ap (λ ns. ns ++ o.note ∷ []) h.1
            ∙ append_assoc (by_taken m play leg l (2 * n)).notes h.0 (o.note ∷ []))),
      )

  pub front : (n k : ℕ) → n ≤ k → take n (by_taken m play leg l (2 * k)).notes ≡ (by_taken m play leg l (2 * n)).notes
  front n k h =
      let b = behind n (k - n) in
      ap (λ (j : ℕ). take n (by_taken m play leg l (2 * j)).notes) (omega (arith, h))
      ∙ (ap (λ ns. take n ns) b.1 ∙ take_at (by_taken m play leg l (2 * n)).notes b.0 n (even n).2)

half_notes : (m : Meaning) (play : Play) (leg : Leg) (s : Standing) (a b : List ℤ) → IsBefore s.stand
    → (round m play leg s a b).notes ≡ s.notes
unfolding IsBefore
half_notes m play leg s a b h = by s.stand refl h
  where
    by : (stand : Stand) → s.stand ≡ stand → IsBefore stand → (round m play leg s a b).notes ≡ s.notes
    by (Before state) e k = ap (λ (x : Stand). (round_at m play leg s a b x).notes) e
    by (Within half) e k = absurd k

odd : (m : Meaning) (play : Play) (leg : Leg) (l : SentTaken) (n : ℕ)
    → (by_taken m play leg l (2 * n + 1)).notes ≡ (by_taken m play leg l (2 * n)).notes
odd m play leg l n =
    ap (λ (x : Standing). x.notes) (next_round m play leg l (2 * n))
    ∙ half_notes m play leg (by_taken m play leg l (2 * n)) (packet_of l.taken_left (2 * n))
    (packet_of l.taken_right (2 * n)) (even m play leg l n).0

halves : (place : Place) → (served place / 4 ≡ 0) ⊎ (served place / 4 ≡ 1)
halves p.PutLeftReadings = inl refl
halves p.PutRightReadings = inl refl
halves p.TakeLeftReadings = inl refl
halves p.TakeRightReadings = inl refl
halves p.PutLeftResult = inr refl
halves p.PutRightResult = inr refl
halves p.TakeLeftResult = inr refl
halves p.TakeRightResult = inr refl

length_most : (n : ℕ) (xs : List NoteData) → length (take n xs) ≤ n
length_most n xs = omega (arith, length-take n xs)

pub cut : (n g : ℕ) (xs : List NoteData) → take (n - g) (drop g xs) ≡ drop g (take n xs)
cut n g xs = ⊎_elim
    (λ (b : n < g).
    let z : n - g ≡ 0 = omega (arith, b) in
    ap (λ k. take k (drop g xs)) z ∙ sym (drop_all g (take n xs) (omega (arith, b, length_most n xs))))
    (λ (b : g ≤ n).
    let z : g + (n - g) ≡ n = omega (arith, b) in sym (drop-take g (n - g) xs) ∙ ap (λ k. drop g (take k xs)) z)
    (cases_lt n g)

-- A leg that stands where its packets lead has noted each scan that it finished.
pub has_notes : (m : Meaning) (play : Play) (x : Leg) (v : LegValue) (l : SentTaken)
    → StandsAt m play v l (by_taken m play x l (rounds_done v))
    → by_taken m play x l (2 * v.finished) ≡ after_scans m play x v.finished → HasNotes m play x v
has_notes m play x v l at play_is =
    let same : (by_taken m play x l (rounds_done v)).notes ≡ (by_taken m play x l (2 * v.finished)).notes = ⊎_elim
    (λ (z : served (place_of v.config) / 4 ≡ 0). ap (λ k. (by_taken m play x l k).notes) (omega (arith, z)))
    (λ (z : served (place_of v.config) / 4 ≡ 1). ap (λ k. (by_taken m play x l k).notes) (omega (arith, z))
    ∙ odd m play x l v.finished)
    (halves (place_of v.config)) in
    let all : List NoteData = (by_taken m play x l (rounds_done v)).notes in
    let number : length all ≡ v.finished = ap length same ∙ (even m play x l v.finished).2 in
    record {
      number = omega (arith, ap length at.notes, length-drop v.given all, at.given, number);
      notes = at.notes ∙ (ap (λ ns. drop v.given ns) (same ∙ ap (λ (s : Standing). s.notes) play_is));
    }
