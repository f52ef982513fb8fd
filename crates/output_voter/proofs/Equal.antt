-- Two equal drives are what is voted.
use Rattle.std.specs.Prelude.{Option, Some, None, slice_get, int_le}
use Rattle.std.proofs.Common.{◌≡◌, ◌⊎◌, inl, inr, ℕ, zero, suc, ◌+◌, ℤ, pos, negsuc, ◌≤ℤ◌, Bool, true, false, ◌&&◌, not, cond, List, [], ◌∷◌, length, drop, refl, sym, ap, subst, ◌∙◌, arith}
use Rattle.std.specs.List.{All, AllByRecursion, AllZip}
use Rattle.std.specs.Ordering.{int_eq}
use Rattle.std.proofs.lemmas.Bool.{eq-eqb}
use Rattle.std.proofs.lemmas.Bool.Decides.{nat_tests}
use Rattle.std.proofs.lemmas.Int.{ints, clamps}
use Rattle.std.proofs.lemmas.List.Elements.{All-filter, recursion_from_All}
use Rattle.tri_base.specs.declared.leg.Triple.{Triple}
use Rattle.tri_base.specs.declared.point.Point.{Point}
use Rattle.tri_base.specs.declared.point.PointKind.{PointKind}
use Rattle.tri_base.specs.declared.point.PointKind.TheVariants.{Di, Ai, Do, Ao}
use Rattle.chassis.specs.Points.{is_input_kind, outputs_of}
use Rattle.chassis.specs.Ranges.{Fits, HasRange, IsDiscreteRange, IsWithin, is_within}
use Rattle.vote_discrete.specs.Majority.{two_of_three}
use Rattle.vote_discrete.specs.Truths.{is_on, number}
use Rattle.vote_analog.specs.Middle.{middle, present}
use Rattle.output_voter.specs.CommonDrives.{TwoDrive, common_drive, common_from, common_of_two, drive_at, drives_at, vote_drives_of, whole_drive, whole_drives, word_in_range}

-- ---- one output

same_word : (v : ℤ) → int_eq v v ≡ true
same_word v = grind (arith, ints, nat_tests)

of_two : (v : ℤ) → common_of_two v v ≡ v
of_two v = ap (λ t. cond t v (pos 0)) (same_word v)

first_two : (v : ℤ) (t : Bool) → pos 0 ≤ℤ v → v ≤ℤ pos 1 → number (two_of_three (is_on v) (is_on v) t) ≡ v
first_two (pos zero) t h k = refl
first_two (pos (suc zero)) t h k = refl
first_two (pos (suc (suc n))) t h k = absurd (omega (arith, ints, k))
first_two (negsuc n) t h k = absurd (omega (arith, ints, h))

last_two : (v : ℤ) (t : Bool) → pos 0 ≤ℤ v → v ≤ℤ pos 1 → number (two_of_three t (is_on v) (is_on v)) ≡ v
last_two (pos zero) true h k = refl
last_two (pos zero) false h k = refl
last_two (pos (suc zero)) true h k = refl
last_two (pos (suc zero)) false h k = refl
last_two (pos (suc (suc n))) t h k = absurd (omega (arith, ints, k))
last_two (negsuc n) t h k = absurd (omega (arith, ints, h))

ends : (v : ℤ) (t : Bool) → pos 0 ≤ℤ v → v ≤ℤ pos 1 → number (two_of_three (is_on v) t (is_on v)) ≡ v
ends (pos zero) true h k = refl
ends (pos zero) false h k = refl
ends (pos (suc zero)) true h k = refl
ends (pos (suc zero)) false h k = refl
ends (pos (suc (suc n))) t h k = absurd (omega (arith, ints, k))
ends (negsuc n) t h k = absurd (omega (arith, ints, h))

middle_first : (v w : ℤ) → middle (v ∷ v ∷ w ∷ []) ≡ v
middle_first v w = omega (arith, ints, clamps)

middle_last : (v w : ℤ) → middle (w ∷ v ∷ v ∷ []) ≡ v
middle_last v w = omega (arith, ints, clamps)

middle_ends : (v w : ℤ) → middle (v ∷ w ∷ v ∷ []) ≡ v
middle_ends v w = omega (arith, ints, clamps)

-- A word in a discrete point's range.
discrete : (low high tolerance v : ℤ) → IsDiscreteRange low high tolerance → low ≤ℤ v → v ≤ℤ high → (pos 0 ≤ℤ v) × (v ≤ℤ pos 1)
discrete low high tolerance v r l h = (grind (arith, ints), grind (arith, ints))

same_ab : (kind : PointKind) (low high tolerance v : ℤ) (other : Option ℤ) → HasRange kind low high tolerance → low ≤ℤ v → v ≤ℤ high
    → common_drive kind (present (record { a = Some v; b = Some v; c = other })) ≡ v
same_ab kind low high tolerance v None r l h = of_two v
same_ab Di low high tolerance v (Some w) r l h =
    let d = discrete low high tolerance v r l h in first_two v (is_on w) d.0 d.1
same_ab Do low high tolerance v (Some w) r l h =
    let d = discrete low high tolerance v r l h in first_two v (is_on w) d.0 d.1
same_ab Ai low high tolerance v (Some w) r l h = middle_first v w
same_ab Ao low high tolerance v (Some w) r l h = middle_first v w

same_bc : (kind : PointKind) (low high tolerance v : ℤ) (other : Option ℤ) → HasRange kind low high tolerance → low ≤ℤ v → v ≤ℤ high
    → common_drive kind (present (record { a = other; b = Some v; c = Some v })) ≡ v
same_bc kind low high tolerance v None r l h = of_two v
same_bc Di low high tolerance v (Some w) r l h =
    let d = discrete low high tolerance v r l h in last_two v (is_on w) d.0 d.1
same_bc Do low high tolerance v (Some w) r l h =
    let d = discrete low high tolerance v r l h in last_two v (is_on w) d.0 d.1
same_bc Ai low high tolerance v (Some w) r l h = middle_last v w
same_bc Ao low high tolerance v (Some w) r l h = middle_last v w

same_ca : (kind : PointKind) (low high tolerance v : ℤ) (other : Option ℤ) → HasRange kind low high tolerance → low ≤ℤ v → v ≤ℤ high
    → common_drive kind (present (record { a = Some v; b = other; c = Some v })) ≡ v
same_ca kind low high tolerance v None r l h = of_two v
same_ca Di low high tolerance v (Some w) r l h = let d = discrete low high tolerance v r l h in ends v (is_on w) d.0 d.1
same_ca Do low high tolerance v (Some w) r l h = let d = discrete low high tolerance v r l h in ends v (is_on w) d.0 d.1
same_ca Ai low high tolerance v (Some w) r l h = middle_ends v w
same_ca Ao low high tolerance v (Some w) r l h = middle_ends v w

-- Two of three legs drive this word.
abbrev TwoSay : ℤ → Triple (Option ℤ) → Type 0
TwoSay v words =
    ((words.a ≡ Some v) × (words.b ≡ Some v)) ⊎ ((words.b ≡ Some v) × (words.c ≡ Some v))
    ⊎ ((words.c ≡ Some v) × (words.a ≡ Some v))

one_output : (p : Point) (v : ℤ) (words : Triple (Option ℤ)) → Fits p → IsWithin p v → TwoSay v words
    → common_drive p.kind (present words) ≡ v
one_output p v words fit h (inl two) =
    ap (λ (x : Option ℤ × Option ℤ). common_drive p.kind (present (record { a = x.0; b = x.1; c = words.c }))) (λ i. (two.0 i, two.1 i))
    ∙ same_ab p.kind p.low p.high p.tolerance v words.c fit h.0 h.1
one_output p v words fit h (inr (inl two)) =
    ap (λ (x : Option ℤ × Option ℤ). common_drive p.kind (present (record { a = words.a; b = x.0; c = x.1 }))) (λ i. (two.0 i, two.1 i))
    ∙ same_bc p.kind p.low p.high p.tolerance v words.a fit h.0 h.1
one_output p v words fit h (inr (inr two)) =
    ap (λ (x : Option ℤ × Option ℤ). common_drive p.kind (present (record { a = x.1; b = words.b; c = x.0 }))) (λ i. (two.0 i, two.1 i))
    ∙ same_ca p.kind p.low p.high p.tolerance v words.b fit h.0 h.1

-- ---- all outputs

-- The word at a place, and the words behind it.
record At (p : Point) (points : List Point) (words : List ℤ) (place : ℕ) : Type 0 where
  word : ℤ
  there : slice_get words place ≡ Some word
  rest : drop place words ≡ word ∷ drop (place + 1) words
  within : IsWithin p word
  more : AllZip IsWithin points (drop (place + 1) words)

at_place : (p : Point) (points : List Point) (words : List ℤ) (place : ℕ) → AllZip IsWithin (p ∷ points) (drop place words)
    → At p points words place
at_place p points [] zero h = absurd h
at_place p points [] (suc place) h = absurd h
at_place p points (v ∷ words) zero h = record { word = v; there = refl; rest = refl; within = h.0; more = h.1 }
at_place p points (v ∷ words) (suc place) h =
    let found = at_place p points words place h in
    let e : suc (place + 1) ≡ suc place + 1 = omega arith in
    record {
      word = found.word;
      there = found.there;
      rest = found.rest ∙ ap (λ k. found.word ∷ drop k (v ∷ words)) e;
      within = found.within;
      more = subst (λ k. AllZip IsWithin points (drop k (v ∷ words))) e found.more;
    }

at_least : (a b : ℤ) → a ≤ℤ b → int_le a b ≡ true
at_least a b h = grind (arith, ints, nat_tests)

in_range : (p : Point) (v : ℤ) → IsWithin p v → is_within p v ≡ true
in_range p v h = λ i. at_least p.low v h.0 i && at_least v p.high h.1 i

drive_is : (p : Point) (words : List ℤ) (place : ℕ) (v : ℤ) → slice_get words place ≡ Some v → IsWithin p v
    → drive_at p place (Some words) ≡ Some v
drive_is p words place v e h = ap (word_in_range p) e ∙ ap (λ t. cond t (Some v) None) (in_range p v h)

two_say : (p : Point) (words : List ℤ) (place : ℕ) (v : ℤ) (drives : Triple (Option (List ℤ))) → TwoDrive words drives
    → drive_at p place (Some words) ≡ Some v → TwoSay v (drives_at p place drives)
two_say p words place v drives (inl two) d = inl (ap (drive_at p place) two.0 ∙ d, ap (drive_at p place) two.1 ∙ d)
two_say p words place v drives (inr (inl two)) d =
    inr (inl (ap (drive_at p place) two.0 ∙ d, ap (drive_at p place) two.1 ∙ d))
two_say p words place v drives (inr (inr two)) d =
    inr (inr (ap (drive_at p place) two.0 ∙ d, ap (drive_at p place) two.1 ∙ d))

no_words : (words : List ℤ) → AllZip IsWithin [] words → ◌≡◌ {A = List ℤ} [] words
no_words [] h = refl
no_words (v ∷ words) h = absurd h

from_place : (points : List Point) (place : ℕ) (words : List ℤ) (drives : Triple (Option (List ℤ))) → AllByRecursion Fits points
    → AllZip IsWithin points (drop place words) → TwoDrive words drives → common_from points place drives ≡ drop place words
from_place [] place words drives fit h two = no_words (drop place words) h
from_place (p ∷ points) place words drives fit h two =
    let at = at_place p points words place h in
    let d = drive_is p words place at.word at.there at.within in
    let first = one_output p at.word (drives_at p place drives) fit.0 at.within (two_say p words place at.word drives two d) in
    let behind = from_place points (place + 1) words drives fit.1 at.more two in
    (λ i. first i ∷ behind i) ∙ sym at.rest

one_each : (points : List Point) (words : List ℤ) → AllZip IsWithin points words → length words ≡ length points
one_each [] [] h = refl
one_each [] (v ∷ words) h = absurd h
one_each (p ∷ points) [] h = absurd h
one_each (p ∷ points) (v ∷ words) h = ap (λ n. suc n) (one_each points words h.1)

is_whole : (outputs : ℕ) (words : List ℤ) → length words ≡ outputs → whole_drive outputs (Some words) ≡ Some words
is_whole outputs words e = ap (λ t. cond t (Some words) None) (eq-eqb (length words) outputs e)

two_whole : (outputs : ℕ) (words : List ℤ) (drives : Triple (Option (List ℤ))) → length words ≡ outputs → TwoDrive words drives
    → TwoDrive words (whole_drives outputs drives)
two_whole outputs words drives e (inl two) =
    let w = is_whole outputs words e in inl (ap (whole_drive outputs) two.0 ∙ w, ap (whole_drive outputs) two.1 ∙ w)
two_whole outputs words drives e (inr (inl two)) =
    let w = is_whole outputs words e in inr (inl (ap (whole_drive outputs) two.0 ∙ w, ap (whole_drive outputs) two.1 ∙ w))
two_whole outputs words drives e (inr (inr two)) =
    let w = is_whole outputs words e in inr (inr (ap (whole_drive outputs) two.0 ∙ w, ap (whole_drive outputs) two.1 ∙ w))

drop_none : (words : List ℤ) → drop 0 words ≡ words
drop_none [] = refl
drop_none (v ∷ words) = refl

pub two_are_voted : (points : List Point) (words : List ℤ) (drives : Triple (Option (List ℤ))) → All Fits points
    → AllZip IsWithin (outputs_of points) words → TwoDrive words drives → vote_drives_of points drives ≡ words
two_are_voted points words drives fit h two =
    let outputs = outputs_of points in
    from_place outputs 0 words (whole_drives (length outputs) drives)
    (recursion_from_All Fits outputs (All-filter (λ q. not (is_input_kind q.kind)) Fits points fit))
    (subst (λ ws. AllZip IsWithin outputs ws) (sym (drop_none words)) h)
    (two_whole (length outputs) words drives (one_each outputs words h) two)
    ∙ drop_none words
