-- Instructions in a row at a place of a list.
use Rattle.std.proofs.Common.{◌≡◌, ℕ, ◌+◌, ◌-◌, ◌<◌, ◌≤◌, List, [], ◌∷◌, ◌++◌, length, Some, slice_get, arith, sym, ap, ◌∙◌, subst, append_assoc, length-append, inl, inr}
use Rattle.std.proofs.Math.Seq.{get_or-append_seam}
use Rattle.std.proofs.lemmas.Option.{slice_get-get_or, slice_get_within, same_Some}
use Rattle.std.proofs.lemmas.Bool.{cases_lt}
use Rattle.scan_machine.specs.declared.instructions.Instr.{Instr}

-- something holds of each of the instructions, at its place
unfoldable pub AllAt : (ℕ → Instr → Type 0) → ℕ → List Instr → Type 0
AllAt P at [] = Unit {0}
AllAt P at (x ∷ xs) = P at x × AllAt P (at + 1) xs

-- the instructions stand in the code at the place
abbrev pub HasAt : List Instr → ℕ → List Instr → Type 0
HasAt code at xs = AllAt (λ k x. slice_get code k ≡ Some x) at xs

module _ (P : ℕ → Instr → Type 0) where
  pub all_front : (at : ℕ) (xs ys : List Instr) → AllAt P at (xs ++ ys) → AllAt P at xs
  unfolding AllAt
  all_front at [] ys h = tt
  all_front at (x ∷ xs) ys h = (h.0, all_front (at + 1) xs ys h.1)

  -- what stands behind the first n
  pub all_back : (at n : ℕ) (xs ys : List Instr) → length xs ≡ n → AllAt P at (xs ++ ys) → AllAt P (at + n) ys
  unfolding AllAt
  all_back at n [] ys is h = let e : at ≡ at + n = omega (arith, is) in subst (λ k. AllAt P k ys) e h
  all_back at n (x ∷ xs) ys is h =
      let e : at + 1 + (n - 1) ≡ at + n = omega (arith, is) in
      subst (λ k. AllAt P k ys) e (all_back (at + 1) (n - 1) xs ys (omega (arith, is)) h.1)

  pub all_join : (at n : ℕ) (xs ys : List Instr) → length xs ≡ n → AllAt P at xs → AllAt P (at + n) ys → AllAt P at (xs ++ ys)
  unfolding AllAt
  all_join at n [] ys is h k = let e : at + n ≡ at = omega (arith, is) in subst (λ k. AllAt P k ys) e k
  all_join at n (x ∷ xs) ys is h k =
      let e : at + n ≡ at + 1 + (n - 1) = omega (arith, is) in
      (h.0, all_join (at + 1) (n - 1) xs ys (omega (arith, is)) h.1 (subst (λ k. AllAt P k ys) e k))

-- a list stands in itself
has_from : (xs pre : List Instr) → HasAt (pre ++ xs) (length pre) xs
unfolding AllAt
has_from [] pre = tt
has_from (x ∷ xs) pre =
    let within : length pre < length (pre ++ x ∷ xs) = omega (arith, length-append pre (x ∷ xs)) in
    let here = slice_get-get_or (pre ++ x ∷ xs) (length pre) x within ∙ ap Some (get_or-append_seam pre x xs x) in
    let n : length (pre ++ x ∷ []) ≡ length pre + 1 = omega (arith, length-append pre (x ∷ [])) in
    let rest = subst (λ l. HasAt l (length (pre ++ x ∷ [])) xs) (append_assoc pre (x ∷ []) xs) (has_from xs (pre ++ x ∷ [])) in
    (here, subst (λ m. HasAt (pre ++ x ∷ xs) m xs) n rest)

pub has_all : (code : List Instr) → HasAt code 0 code
has_all code = has_from code []

pub first_at : (P : ℕ → Instr → Type 0) (at : ℕ) (x : Instr) (xs : List Instr) → AllAt P at (x ∷ xs) → P at x
unfolding AllAt
first_at P at x xs h = h.0

pub rest_at : (P : ℕ → Instr → Type 0) (at : ℕ) (x : Instr) (xs : List Instr) → AllAt P at (x ∷ xs) → AllAt P (at + 1) xs
unfolding AllAt
rest_at P at x xs h = h.1

pub none_at : (P : ℕ → Instr → Type 0) (at : ℕ) → AllAt P at []
unfolding AllAt
none_at P at = tt

pub cons_at : (P : ℕ → Instr → Type 0) (at : ℕ) (x : Instr) (xs : List Instr) → P at x → AllAt P (at + 1) xs → AllAt P at (x ∷ xs)
unfolding AllAt
cons_at P at x xs h k = (h, k)

-- the one at a place of the code
pub all_lookup : (P : ℕ → Instr → Type 0) (code : List Instr) (at : ℕ) (xs : List Instr) → HasAt code at xs → AllAt P at xs → (k : ℕ) (x : Instr) → at ≤ k → k < at + length xs → slice_get code k ≡ Some x → P k x
all_lookup P code at [] h all k x low high is = absurd (omega (arith, low, high))
all_lookup P code at (y ∷ ys) h all k x low high is =
    elim (cases_lt at k) as (λ _. P k x) [
      | inl less ↦ all_lookup P code (at + 1) ys (rest_at _ at y ys h) (rest_at P at y ys all) k x (omega (arith, less)) (omega (arith, high)) is
      | inr not_less ↦
          let e : at ≡ k = omega (arith, low, not_less) in
          let same : y ≡ x = same_Some y x (sym (first_at _ at y ys h) ∙ (ap (slice_get code) e ∙ is)) in
          subst (λ z. P k z) same (subst (λ j. P j y) e (first_at P at y ys all))
    ]

-- it ends within the code
pub has_within : (code : List Instr) (at : ℕ) (xs : List Instr) → HasAt code at xs → at ≤ length code → at + length xs ≤ length code
has_within code at [] h le = omega (arith, le)
has_within code at (x ∷ xs) h le =
    let w = slice_get_within code at x (first_at _ at x xs h) in
    omega (arith, has_within code (at + 1) xs (rest_at _ at x xs h) (omega (arith, w)))
