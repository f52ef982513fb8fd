-- Words with each number that a scan stored over put back.
use Rattle.std.proofs.Common.{◌≡◌, ℕ, ℤ, suc, pos, ◌+◌, List, [], ◌∷◌, length, Option, Some, None, refl, sym, subst, arith}
use Rattle.std.specs.Prelude.{slice_index_or, unwrap_or}
use Rattle.tri_base.specs.Noted.{number_before, restored, restored_from}
use Rattle.engine_face.specs.Laws.{TellStores}

-- The numbers of the words from an address on are those that are put back there, or as before where nothing is.
record Tells (at : ℕ) (before after : List ℤ) (pairs : List (ℕ × ℤ)) : Type 0 where
  number : (k : ℕ) (v : ℤ) → number_before (at + k) pairs ≡ Some v → v ≡ slice_index_or before k (pos 0)
  others : (k : ℕ) → number_before (at + k) pairs ≡ None → slice_index_or after k (pos 0) ≡ slice_index_or before k (pos 0)

later : (at : ℕ) (b a : ℤ) (before after : List ℤ) (pairs : List (ℕ × ℤ)) → Tells at (b ∷ before) (a ∷ after) pairs → Tells (at + 1) before after pairs
later at b a before after pairs h = record {
  number = λ k v e. h.number (suc k) v (subst (λ (n : ℕ). number_before n pairs ≡ Some v) (moved k) e);
  others = λ k e. h.others (suc k) (subst (λ (n : ℕ). number_before n pairs ≡ None) (moved k) e);
}
  where
    moved : (k : ℕ) → at + 1 + k ≡ at + suc k
    moved k = omega arith

put_back : (o : Option ℤ) (a b : ℤ) → ((v : ℤ) → o ≡ Some v → v ≡ b) → (o ≡ None → a ≡ b) → unwrap_or o a ≡ b
put_back (Some v) a b number others = number v refl
put_back None a b number others = others refl

restored_at : (at : ℕ) (before after : List ℤ) (pairs : List (ℕ × ℤ)) → Tells at before after pairs → length after ≡ length before → restored_from at pairs after ≡ before
restored_at at [] [] pairs h e = refl
restored_at at [] (a ∷ after) pairs h e = absurd (omega (arith, e))
restored_at at (b ∷ before) [] pairs h e = absurd (omega (arith, e))
restored_at at (b ∷ before) (a ∷ after) pairs h e =
    let here : at + 0 ≡ at = omega arith in
    let head : unwrap_or (number_before at pairs) a ≡ b =
    put_back (number_before at pairs) a b
    (λ v q. h.number 0 v (subst (λ (n : ℕ). number_before n pairs ≡ Some v) (sym here) q))
    (λ q. h.others 0 (subst (λ (n : ℕ). number_before n pairs ≡ None) (sym here) q)) in
    let rest : restored_from (at + 1) pairs after ≡ before = restored_at (at + 1) before after pairs (later at b a before after pairs h) (omega (arith, e)) in
    λ i. head i ∷ rest i

pub stores_restore : (before after : List ℤ) (pairs : List (ℕ × ℤ)) → TellStores before after pairs → length after ≡ length before → restored pairs after ≡ before
stores_restore before after pairs h e =
    restored_at 0 before after pairs (record { number = λ k v q. h.number k v (subst (λ (n : ℕ). number_before n pairs ≡ Some v) (from_zero k) q); others = λ k q. h.others k (subst (λ (n : ℕ). number_before n pairs ≡ None) (from_zero k) q) }) e
  where
    from_zero : (k : ℕ) → 0 + k ≡ k
    from_zero k = omega arith
