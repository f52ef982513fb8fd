-- A row of legs, of which one is served after another.
use Rattle.std.proofs.Common.{◌≡◌, ◌<◌, ℕ, zero, suc, ◌+◌, List, [], ◌∷◌, length, Some, slice_get, slice_set, slice_index_or, refl, ap, sym, ◌∙◌, arith, subst, ⊎_elim, ◌⊎◌, inl, inr}
use Rattle.tri_base.specs.declared.point.Point.{Point}
use Rattle.engine_face.specs.Meaning.{Meaning}
use Rattle.leg_workers.specs.Working.{LegAtPost, AreAll, HaveWorked, IsDone, IsKept}
use Rattle.leg_workers.specs.Inner.Rows.{AreDoneBelow}
use Rattle.leg_workers.proofs.Kept.{kept_same, kept_twice}

some_inj : (p q : LegAtPost) → Some p ≡ Some q → p ≡ q
some_inj p q e = cc e

-- what stands at a place of a row as long as another
there : (xs ys : List LegAtPost) (i : ℕ) (y : LegAtPost) → length ys ≡ length xs → slice_get ys i ≡ Some y
    → (x : LegAtPost) × (slice_get xs i ≡ Some x)
there [] [] i y e h = absurd cc
there [] (z ∷ ys) i y e h = absurd (omega arith)
there (x ∷ xs) [] i y e h = absurd (omega arith)
there (x ∷ xs) (z ∷ ys) zero y e h = (x, refl)
there (x ∷ xs) (z ∷ ys) (suc i) y e h = there xs ys i y (omega arith) h

inside : (ys : List LegAtPost) (i : ℕ) (y : LegAtPost) → slice_get ys i ≡ Some y → i < length ys
inside [] i y h = absurd cc
inside (z ∷ ys) zero y h = omega arith
inside (z ∷ ys) (suc i) y h = let r = inside ys i y h in omega (arith, r)

-- the row after one was served, at the place i
set_get : (xs : List LegAtPost) (i j : ℕ) (y now : LegAtPost) → slice_get (slice_set xs i y) j ≡ Some now
    → ((j ≡ i) × (y ≡ now)) ⊎ ((slice_get xs j ≡ Some now) × (j < i + 1 → j < i))
set_get [] i j y now h = absurd cc
set_get (x ∷ xs) zero zero y now h = inl (refl, some_inj y now h)
set_get (x ∷ xs) zero (suc j) y now h = inr (h, λ lt. absurd (omega arith))
set_get (x ∷ xs) (suc i) zero y now h = inr (h, λ lt. omega arith)
set_get (x ∷ xs) (suc i) (suc j) y now h =
    ⊎_elim (λ a. inl (ap suc a.0, a.1))
    (λ (a : (slice_get xs j ≡ Some now) × (j < i + 1 → j < i)).
    inr (a.0, λ lt. let q = a.1 (omega arith) in omega (arith, q)))
    (set_get xs i j y now h)

set_length : (xs : List LegAtPost) (i : ℕ) (y : LegAtPost) → length (slice_set xs i y) ≡ length xs
set_length [] i y = refl
set_length (x ∷ xs) zero y = refl
set_length (x ∷ xs) (suc i) y = ap suc (set_length xs i y)

get_at : (xs : List LegAtPost) (i : ℕ) (d : LegAtPost) → i < length xs → slice_get xs i ≡ Some (slice_index_or xs i d)
get_at [] i d lt = absurd (omega arith)
get_at (x ∷ xs) zero d lt = refl
get_at (x ∷ xs) (suc i) d lt = get_at xs i d (omega arith)

pub stands_at : (xs : List LegAtPost) (i : ℕ) (x : LegAtPost) → i < length xs → x ≡ slice_index_or xs i x
    → slice_get xs i ≡ Some x
stands_at xs i x lt e = get_at xs i x lt ∙ ap Some (sym e)

pub done_set : (xs : List LegAtPost) (i : ℕ) (y : LegAtPost) → AreDoneBelow i xs → IsDone y
    → AreDoneBelow (i + 1) (slice_set xs i y)
done_set xs i y d is j p lt s =
    ⊎_elim (λ (a : (j ≡ i) × (y ≡ p)). subst IsDone a.1 is)
    (λ (a : (slice_get xs j ≡ Some p) × (j < i + 1 → j < i)). d j p (a.1 lt) a.0) (set_get xs i j y p s)

module _ (m : List Point → Meaning) where
  pub kept_row : (xs : List LegAtPost) → AreAll (IsKept m) xs xs
  kept_row xs = (refl, λ i was now a b. kept_same m was now (some_inj now was (sym b ∙ a)))

  pub kept_trans : (xs ys zs : List LegAtPost) → AreAll (IsKept m) xs ys → AreAll (IsKept m) ys zs
      → AreAll (IsKept m) xs zs
  kept_trans xs ys zs a b = (
    b.0 ∙ a.0,
    λ i was now h k.
        let q = there ys zs i now b.0 k in
        kept_twice m was q.0 now (a.1 i was q.0 h q.1) (b.1 i q.0 now q.1 k),
  )

  -- rows that end done are worked
  pub worked : (xs ys : List LegAtPost) → AreAll (IsKept m) xs ys → AreDoneBelow (length ys) ys → HaveWorked m xs ys
  worked xs ys k d = (k.0, λ i was now h w. (k.1 i was now h w, d i now (inside ys i now w) w))

  pub kept_set : (olds xs : List LegAtPost) (i : ℕ) (x y : LegAtPost) → AreAll (IsKept m) olds xs
      → slice_get xs i ≡ Some x → IsKept m x y → AreAll (IsKept m) olds (slice_set xs i y)
  kept_set olds xs i x y k at step = (
    set_length xs i y ∙ k.0,
    λ j was now h s.
        ⊎_elim
        (λ (a : (j ≡ i) × (y ≡ now)).
        subst (λ z. IsKept m was z) a.1
        (kept_twice m was x y (k.1 i was x (subst (λ n. slice_get olds n ≡ Some was) a.0 h) at) step))
        (λ (a : (slice_get xs j ≡ Some now) × (j < i + 1 → j < i)). k.1 j was now h a.0)
        (set_get xs i j y now s),
  )
