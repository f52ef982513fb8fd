-- Pairs, one after another.
use Rattle.std.proofs.Common.{◌≡◌, ℕ, ℤ, pos, nat_abs, ◌+◌, ◌<◌, ◌≤◌, ◌≤ℤ◌, List, [], ◌∷◌, length, drop, slice_index_or, refl, ap, subst, ◌∙◌, arith}
use Rattle.std.specs.Prelude.{slice_set}
use Rattle.std.proofs.lemmas.List.{drop_more, length-drop}
use Rattle.std.proofs.lemmas.Int.{ints}
use Rattle.leg_packet.specs.Sheets.{Rise, flat}
use Rattle.memory_compare.specs.Changes.{applied}
use Rattle.re_education.specs.Inner.Shown.{ArePairs, pairs_in}

two_ahead : (words : List ℤ) (at : ℕ) (d : ℤ) → at + 1 < length words → drop at words ≡ slice_index_or words at d ∷ slice_index_or words (at + 1) d ∷ drop (at + 2) words
two_ahead words at d h =
    drop_more words at d (omega (arith, h))
    ∙ ap (λ rest. slice_index_or words at d ∷ rest) (drop_more words (at + 1) d h ∙ ap (λ k. slice_index_or words (at + 1) d ∷ drop k words) (omega arith))

pub record PairThere (below at : ℕ) (words : List ℤ) (d : ℤ) : Type 0 where
  pub from : pos 0 ≤ℤ slice_index_or words at d
  pub within : nat_abs (slice_index_or words at d) < below
  pub later : ArePairs below (drop (at + 2) words)

pub pair_there : (below at : ℕ) (words : List ℤ) (d : ℤ) → ArePairs below (drop at words) → at + 1 < length words → PairThere below at words d
pair_there below at words d h g =
    let p = subst (ArePairs below) (two_ahead words at d g) h in
    record { from = p.0; within = p.1; later = p.2 }

pub applied_step : (behind at : ℕ) (words image : List ℤ) (d : ℤ) → at + 1 < length words
    → applied behind (pairs_in (drop at words)) image ≡ applied behind (pairs_in (drop (at + 2) words)) (slice_set image (behind + nat_abs (slice_index_or words at d)) (slice_index_or words (at + 1) d))
applied_step behind at words image d h = ap (λ ws. applied behind (pairs_in ws) image) (two_ahead words at d h)

short : (behind : ℕ) (words image : List ℤ) → length words ≤ 1 → applied behind (pairs_in words) image ≡ image
short behind [] image h = refl
short behind (a ∷ []) image h = refl
short behind (a ∷ v ∷ words) image h = absurd (omega (arith, h))

pub applied_end : (behind at : ℕ) (words image : List ℤ) → length words ≤ at + 1 → applied behind (pairs_in (drop at words)) image ≡ image
applied_end behind at words image h = short behind (drop at words) image (omega (arith, h, length-drop at words))

pub pairs_from_rise : (from below : ℕ) (pairs : List (ℕ × ℤ)) → Rise from below pairs → ArePairs below (flat pairs)
pairs_from_rise from below [] h = tt
pairs_from_rise from below (pair ∷ pairs) h = (grind (arith, ints), h.1, pairs_from_rise (pair.0 + 1) below pairs h.2)
