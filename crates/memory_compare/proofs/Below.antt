-- Each place that changed is one of the pairs.
use Rattle.std.proofs.Common.{◌≡◌, ℕ, ◌+◌, ◌≤◌, ℤ, Bool, true, false, not, nat_lt, if◌then◌else◌, Option, Some, None, is_some, unwrap_or, List, [], ◌∷◌, length, refl, arith, ◌==◌}
use Rattle.std.specs.Ordering.{int_eq}
use Rattle.std.proofs.lemmas.Bool.Decides.{nat_tests, Decides-int_eq}
use Rattle.std.proofs.lemmas.Bool.{eqb-true}
use Rattle.tri_base.specs.Noted.{number_before, restored}
use Rattle.memory_compare.specs.Changes.{changes_of}
use Rattle.memory_compare.specs.Inner.OneChange.{noted_below}
use Rattle.memory_compare.proofs.Steps.{noted_changes}

pub below_most : (k : ℕ) (pairs : List (ℕ × ℤ)) → noted_below k pairs ≤ length pairs
below_most k [] = omega arith
below_most k (pair ∷ pairs) = by (nat_lt pair.0 k) (below_most k pairs)
  where
    by : (t : Bool) → noted_below k pairs ≤ length pairs → (if t then 1 else 0) + noted_below k pairs ≤ length (pair ∷ pairs)
    by true h = omega (arith, h)
    by false h = omega (arith, h)

pub below_grows : (k : ℕ) (pairs : List (ℕ × ℤ)) → noted_below k pairs ≤ noted_below (k + 1) pairs
below_grows k [] = omega arith
below_grows k (pair ∷ pairs) = by (nat_lt pair.0 k) (nat_lt pair.0 (k + 1)) refl refl (below_grows k pairs)
  where
    by : (s t : Bool) → nat_lt pair.0 k ≡ s → nat_lt pair.0 (k + 1) ≡ t → noted_below k pairs ≤ noted_below (k + 1) pairs → (if s then 1 else 0) + noted_below k pairs ≤ (if t then 1 else 0) + noted_below (k + 1) pairs
    by true true e f h = omega (arith, h)
    by true false e f h = absurd (grind (arith, nat_tests))
    by false true e f h = omega (arith, h)
    by false false e f h = omega (arith, h)

pub below_more : (k : ℕ) (pairs : List (ℕ × ℤ)) → is_some (number_before k pairs) ≡ true → noted_below k pairs + 1 ≤ noted_below (k + 1) pairs
below_more k [] h = absurd (cc)
below_more k (pair ∷ pairs) h = by (λ g. below_more k pairs g) (pair.0 == k) refl h
  where
    here : (s t : Bool) → pair.0 ≡ k → nat_lt pair.0 k ≡ s → nat_lt pair.0 (k + 1) ≡ t → (if s then 1 else 0) + noted_below k pairs + 1 ≤ (if t then 1 else 0) + noted_below (k + 1) pairs
    here true t q e f = absurd (grind (arith, nat_tests))
    here false false q e f = absurd (grind (arith, nat_tests))
    here false true q e f = omega (arith, below_grows k pairs)

    there : (s t : Bool) → noted_below k pairs + 1 ≤ noted_below (k + 1) pairs → nat_lt pair.0 k ≡ s → nat_lt pair.0 (k + 1) ≡ t → (if s then 1 else 0) + noted_below k pairs + 1 ≤ (if t then 1 else 0) + noted_below (k + 1) pairs
    there true true r e f = omega (arith, r)
    there true false r e f = absurd (grind (arith, nat_tests))
    there false true r e f = omega (arith, r)
    there false false r e f = omega (arith, r)

    by : (is_some (number_before k pairs) ≡ true → noted_below k pairs + 1 ≤ noted_below (k + 1) pairs) → (t : Bool) → (pair.0 == k) ≡ t → is_some (if t then Some pair.1 else number_before k pairs) ≡ true
        → (if nat_lt pair.0 k then 1 else 0) + noted_below k pairs + 1 ≤ (if nat_lt pair.0 (k + 1) then 1 else 0) + noted_below (k + 1) pairs
    by later true e g = here (nat_lt pair.0 k) (nat_lt pair.0 (k + 1)) (eqb-true pair.0 k e) refl refl
    by later false e g = there (nat_lt pair.0 k) (nat_lt pair.0 (k + 1)) (later g) refl refl

-- a place that changed was noted
pub noted_where : (o : Option ℤ) (word : ℤ) → int_eq (unwrap_or o word) word ≡ false → is_some o ≡ true
noted_where None word h = let f : int_eq word word ≡ true = (Decides-int_eq word word).1 refl in absurd (cc)
noted_where (Some before) word h = refl

pub changed_noted : (o : Option ℤ) (word : ℤ) → not (int_eq (unwrap_or o word) word) ≡ true → is_some o ≡ true
changed_noted o word h = by (int_eq (unwrap_or o word) word) refl h
  where
    by : (t : Bool) → int_eq (unwrap_or o word) word ≡ t → not t ≡ true → is_some o ≡ true
    by true e g = absurd (cc)
    by false e g = noted_where o word e

-- so there are no more changes than pairs
few_from : (k : ℕ) (pairs : List (ℕ × ℤ)) (words : List ℤ) → length (noted_changes k pairs words) + noted_below k pairs ≤ length pairs
few_from k pairs [] = omega (arith, below_most k pairs)
few_from k pairs (word ∷ words) = by (int_eq (unwrap_or (number_before k pairs) word) word) refl (few_from (k + 1) pairs words)
  where
    by : (t : Bool) → int_eq (unwrap_or (number_before k pairs) word) word ≡ t → length (noted_changes (k + 1) pairs words) + noted_below (k + 1) pairs ≤ length pairs
        → length {A = ℕ × ℤ} (if t then noted_changes (k + 1) pairs words else (k, word) ∷ noted_changes (k + 1) pairs words) + noted_below k pairs ≤ length pairs
    by true e h = omega (arith, h, below_grows k pairs)
    by false e h = omega (arith, h, below_more k pairs (noted_where (number_before k pairs) word e))

pub few_changes : (pairs : List (ℕ × ℤ)) (words : List ℤ) → length (changes_of (restored pairs words) words) ≤ length pairs
few_changes pairs words = omega (arith, few_from 0 pairs words)
