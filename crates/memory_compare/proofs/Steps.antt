-- The changes from one address on are the change there and the changes behind it.
use Rattle.std.proofs.Common.{◌≡◌, ℕ, ◌+◌, ◌<◌, ℤ, pos, Bool, true, false, if◌then◌else◌, unwrap_or, List, [], ◌∷◌, ◌++◌, length, drop, slice_index_or, refl, ap, ◌∙◌}
use Rattle.std.specs.Ordering.{int_eq}
use Rattle.std.proofs.lemmas.List.{drop_more, map-append}
use Rattle.tri_base.specs.Noted.{number_before, restored_from}
use Rattle.memory_compare.specs.Changes.{changes_from, addresses_in, values_in}
use Rattle.memory_compare.specs.Inner.OneChange.{change_at}

choice : (t : Bool) (k : ℕ) (y : ℤ) (rest : List (ℕ × ℤ)) → ◌≡◌ {A = List (ℕ × ℤ)} (if t then rest else (k, y) ∷ rest) ((if t then [] else (k, y) ∷ []) ++ rest)
choice true k y rest = refl
choice false k y rest = refl

differ_step : (old new : List ℤ) (k : ℕ) (d : ℤ) → k < length old → k < length new
    → changes_from k (drop k old) (drop k new) ≡ change_at k (slice_index_or old k d) (slice_index_or new k d) ++ changes_from (k + 1) (drop (k + 1) old) (drop (k + 1) new)
differ_step old new k d h g =
    (λ i. changes_from k (drop_more old k d h i) (drop_more new k d g i))
    ∙ choice (int_eq (slice_index_or old k d) (slice_index_or new k d)) k (slice_index_or new k d) (changes_from (k + 1) (drop (k + 1) old) (drop (k + 1) new))

pub addresses_differ : (old new : List ℤ) (k : ℕ) (d : ℤ) → k < length old → k < length new
    → addresses_in (changes_from k (drop k old) (drop k new)) ≡ addresses_in (change_at k (slice_index_or old k d) (slice_index_or new k d)) ++ addresses_in (changes_from (k + 1) (drop (k + 1) old) (drop (k + 1) new))
addresses_differ old new k d h g = ap addresses_in (differ_step old new k d h g) ∙ map-append (λ (p : ℕ × ℤ). pos p.0) (change_at k (slice_index_or old k d) (slice_index_or new k d)) (changes_from (k + 1) (drop (k + 1) old) (drop (k + 1) new))

pub values_differ : (old new : List ℤ) (k : ℕ) (d : ℤ) → k < length old → k < length new
    → values_in (changes_from k (drop k old) (drop k new)) ≡ values_in (change_at k (slice_index_or old k d) (slice_index_or new k d)) ++ values_in (changes_from (k + 1) (drop (k + 1) old) (drop (k + 1) new))
values_differ old new k d h g = ap values_in (differ_step old new k d h g) ∙ map-append (λ (p : ℕ × ℤ). p.1) (change_at k (slice_index_or old k d) (slice_index_or new k d)) (changes_from (k + 1) (drop (k + 1) old) (drop (k + 1) new))

-- The changes of words from an address on, by what was noted of them.
abbrev pub noted_changes : ℕ → List (ℕ × ℤ) → List ℤ → List (ℕ × ℤ)
noted_changes address pairs words = changes_from address (restored_from address pairs words) words

noted_step : (pairs : List (ℕ × ℤ)) (words : List ℤ) (k : ℕ) (d : ℤ) → k < length words
    → noted_changes k pairs (drop k words) ≡ change_at k (unwrap_or (number_before k pairs) (slice_index_or words k d)) (slice_index_or words k d) ++ noted_changes (k + 1) pairs (drop (k + 1) words)
noted_step pairs words k d h =
    ap (λ ws. noted_changes k pairs ws) (drop_more words k d h)
    ∙ choice (int_eq (unwrap_or (number_before k pairs) (slice_index_or words k d)) (slice_index_or words k d)) k (slice_index_or words k d) (noted_changes (k + 1) pairs (drop (k + 1) words))

pub addresses_step : (pairs : List (ℕ × ℤ)) (words : List ℤ) (k : ℕ) (d : ℤ) → k < length words
    → addresses_in (noted_changes k pairs (drop k words)) ≡ addresses_in (change_at k (unwrap_or (number_before k pairs) (slice_index_or words k d)) (slice_index_or words k d)) ++ addresses_in (noted_changes (k + 1) pairs (drop (k + 1) words))
addresses_step pairs words k d h = ap addresses_in (noted_step pairs words k d h) ∙ map-append (λ (p : ℕ × ℤ). pos p.0) (change_at k (unwrap_or (number_before k pairs) (slice_index_or words k d)) (slice_index_or words k d)) (noted_changes (k + 1) pairs (drop (k + 1) words))

pub values_step : (pairs : List (ℕ × ℤ)) (words : List ℤ) (k : ℕ) (d : ℤ) → k < length words
    → values_in (noted_changes k pairs (drop k words)) ≡ values_in (change_at k (unwrap_or (number_before k pairs) (slice_index_or words k d)) (slice_index_or words k d)) ++ values_in (noted_changes (k + 1) pairs (drop (k + 1) words))
values_step pairs words k d h = ap values_in (noted_step pairs words k d h) ∙ map-append (λ (p : ℕ × ℤ). p.1) (change_at k (unwrap_or (number_before k pairs) (slice_index_or words k d)) (slice_index_or words k d)) (noted_changes (k + 1) pairs (drop (k + 1) words))
