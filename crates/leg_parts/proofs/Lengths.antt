-- How long lists are.
use Rattle.std.proofs.Common.{◌≡◌, ◌≤◌, ◌*◌, ℕ, zero, suc, ℤ, pos, List, [], ◌∷◌, ◌++◌, length, take, drop, ap, ◌∙◌, arith}
use Rattle.std.proofs.lemmas.List.{length-map}
use Rattle.memory_compare.specs.Changes.{addresses_in, values_in}
use Rattle.memory_compare.specs.Windows.{window}

pub added : (xs ys zs : List ℤ) → ys ≡ [] → xs ≡ ys ++ zs → length xs ≡ length zs
added xs ys zs e h = ap length (h ∙ ap (λ (l : List ℤ). l ++ zs) e)

pub addresses_number : (changed : List (ℕ × ℤ)) → length (addresses_in changed) ≡ length changed
addresses_number changed = length-map changed (λ (pair : ℕ × ℤ). pos pair.0)

pub values_number : (changed : List (ℕ × ℤ)) → length (values_in changed) ≡ length changed
values_number changed = length-map changed (λ (pair : ℕ × ℤ). pair.1)

take_few : (n : ℕ) (xs : List ℤ) → length (take n xs) ≤ n
take_few zero xs = omega arith
take_few (suc n) [] = omega arith
take_few (suc n) (x ∷ xs) = omega (arith, take_few n xs)

pub window_few : (words : List ℤ) (turn : ℕ) → length (window words turn) ≤ 64
window_few words turn = take_few 64 (drop (64 * turn) words)
