-- Lines that begin something that lines spell.
use Rattle.std.proofs.Common.{◌≡◌, ℕ, ◌-◌, ◌≤◌, List, ◌++◌, take, drop, sym, ap, ◌∙◌, subst, append_assoc, arith}
use Rattle.std.proofs.Math.Seq.{take-add}
use Rattle.std.proofs.lemmas.List.{take-append-drop}

module _ {V : Type 0} (Spells : List (List ℕ) → V → Type 0) where
  abbrev Begins : List (List ℕ) → Type 0
  Begins lines = (more : List (List ℕ)) × (v : V) × Spells (lines ++ more) v

  -- the front of what begins one begins one
  front_begins : (front rest : List (List ℕ)) → Begins (front ++ rest) → Begins front
  front_begins front rest b =
      (rest ++ b.0, b.1, subst (λ (l : List (List ℕ)). Spells l b.1) (append_assoc front rest b.0) b.2)

  -- lines that spell one begin it, up to any line
  pub start_begins : (n : ℕ) (lines : List (List ℕ)) (v : V) → Spells lines v
      → (more : List (List ℕ)) × (v : V) × Spells (take n lines ++ more) v
  start_begins n lines v a = (drop n lines, v, subst (λ (l : List (List ℕ)). Spells l v) (sym (take-append-drop n lines)) a)

  -- where a longer front begins one, a shorter one does
  pub shorter_begins : (n m : ℕ) (lines : List (List ℕ)) → n ≤ m
      → ((more : List (List ℕ)) × (v : V) × Spells (take m lines ++ more) v)
      → (more : List (List ℕ)) × (v : V) × Spells (take n lines ++ more) v
  shorter_begins n m lines h b =
      let split : take m lines ≡ take n lines ++ take (m - n) (drop n lines) = ap (λ k. take k lines) (omega (arith, h)) ∙ take-add n (m - n) lines in
      front_begins (take n lines) (take (m - n) (drop n lines)) (subst Begins split b)

  -- what all begins, begins to each line
  pub all_begins : (n : ℕ) (lines : List (List ℕ)) → ((more : List (List ℕ)) × (v : V) × Spells (lines ++ more) v)
      → (more : List (List ℕ)) × (v : V) × Spells (take n lines ++ more) v
  all_begins n lines b = front_begins (take n lines) (drop n lines) (subst Begins (sym (take-append-drop n lines)) b)
