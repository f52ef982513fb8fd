-- A window of a text and words, part by part.
use Rattle.std.proofs.Common.{◌≡◌, ℕ, zero, suc, ◌-◌, ◌*◌, ℤ, pos, List, [], ◌∷◌, ◌++◌, length, take, drop, map, refl, sym, ap, ◌∙◌, arith}
use Rattle.std.proofs.lemmas.List.{length-map, length-take, take-map, drop-map}
use Rattle.memory_compare.specs.Windows.{memory, window}

take_nothing : (n : ℕ) → ◌≡◌ {A = List ℤ} (take n []) []
take_nothing zero = refl
take_nothing (suc n) = refl

drop_nothing : (n : ℕ) → ◌≡◌ {A = List ℤ} (drop n []) []
drop_nothing zero = refl
drop_nothing (suc n) = refl

pub take_joined : (n : ℕ) (xs ys : List ℤ) → take n (xs ++ ys) ≡ take n xs ++ take (n - length xs) ys
take_joined n [] ys = (λ i. take (minus n i) ys) ∙ ap (λ zs. zs ++ take (n - 0) ys) (sym (take_nothing n))
  where
    minus : (n : ℕ) → n ≡ n - 0
    minus n = omega arith
take_joined zero (x ∷ xs) ys = ap (λ k. take k ys) (none (length (x ∷ xs)))
  where
    none : (n : ℕ) → 0 ≡ 0 - n
    none n = omega arith
take_joined (suc n) (x ∷ xs) ys = ap (λ zs. x ∷ zs) (take_joined n xs ys ∙ ap (λ k. take n xs ++ take k ys) (less n (length xs)))
  where
    less : (n m : ℕ) → n - m ≡ suc n - suc m
    less n m = omega arith

pub drop_joined : (n : ℕ) (xs ys : List ℤ) → drop n (xs ++ ys) ≡ drop n xs ++ drop (n - length xs) ys
drop_joined n [] ys = (λ i. drop (minus n i) ys) ∙ ap (λ zs. zs ++ drop (n - 0) ys) (sym (drop_nothing n))
  where
    minus : (n : ℕ) → n ≡ n - 0
    minus n = omega arith
drop_joined zero (x ∷ xs) ys = ap (λ k. x ∷ (xs ++ drop k ys)) (none (length (x ∷ xs)))
  where
    none : (n : ℕ) → 0 ≡ 0 - n
    none n = omega arith
drop_joined (suc n) (x ∷ xs) ys = drop_joined n xs ys ∙ ap (λ k. drop n xs ++ drop k ys) (less n (length xs))
  where
    less : (n m : ℕ) → n - m ≡ suc n - suc m
    less n m = omega arith

-- how many of 64 are left behind the bytes that are shown
left : (n : ℕ) (bytes : List ℕ) → n - length bytes ≡ n - length (take n bytes)
left n bytes = omega (arith, length-take n bytes)

pub window_parts : (text : List ℕ) (words : List ℤ) (turn : ℕ)
    → window (memory text words) turn ≡ map pos (take 64 (drop (64 * turn) text)) ++ take (64 - length (take 64 (drop (64 * turn) text))) (drop (64 * turn - length text) words)
window_parts text words turn =
    let at : ℕ = 64 * turn in
    let bytes : List ℤ = map pos text in
    let rest : List ℤ = drop (at - length text) words in
    let bytes_here : drop at bytes ≡ map pos (drop at text) = drop-map pos at text in
    ap (λ ws. take 64 ws) (drop_joined at bytes words ∙ (λ i. bytes_here i ++ drop (at - length-map text pos i) words))
    ∙ take_joined 64 (map pos (drop at text)) rest
    ∙ (λ i. take-map pos 64 (drop at text) i ++ take ((ap (λ n. 64 - n) (length-map (drop at text) pos) ∙ left 64 (drop at text)) i) rest)

-- the same of parts that are known by their equations
pub window_shown : (text : List ℕ) (words : List ℤ) (turn skip : ℕ) (bytes : List ℕ) (behind : List ℤ) → bytes ≡ take 64 (drop (64 * turn) text) → skip ≡ 64 * turn - length text → behind ≡ take (64 - length bytes) (drop skip words)
    → map pos bytes ++ behind ≡ window (memory text words) turn
window_shown text words turn skip bytes behind b s w =
    (λ i. map pos (b i) ++ (w ∙ (λ j. take (64 - length (b j)) (drop (s j) words))) i) ∙ sym (window_parts text words turn)
