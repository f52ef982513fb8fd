-- Nobody has to believe what stands here: it serves the implementation of a trait alone.
-- Stores behind stores tell what both did.
use Rattle.std.proofs.Common.{◌≡◌, ◌≢◌, ℕ, suc, ◌<◌, ℤ, pos, Bool, true, false, ◌==◌, if◌then◌else◌, List, [], ◌∷◌, ◌++◌, length, Option, Some, None, arith, refl, sym, ap, ◌∙◌, subst, eqb-true, eq-eqb, true≢false}
use Rattle.std.specs.Prelude.{slice_index_or}
use Rattle.std.specs.List.{All, AllPairs}
use Rattle.std.proofs.lemmas.Option.{same_Some, none-some}
use Rattle.std.proofs.lemmas.List.Elements.{All-head, All-tail, All-append, All-weaker}
use Rattle.std.proofs.lemmas.List.Kept.{AllPairs-cons}
use Rattle.tri_base.specs.Noted.{number_before}
use Rattle.engine_face.specs.Laws.{TellStores}
use Rattle.scan_machine.specs.Laws.{NotesStores}

-- ---- numbers before

if_some : (t : Bool) (v : ℤ) (o o' : Option ℤ) (u : ℤ) → (o ≡ Some u → o' ≡ Some u) → (if t then Some v else o) ≡ Some u → (if t then Some v else o') ≡ Some u
if_some true v o o' u h e = e
if_some false v o o' u h e = h e

if_none : (t : Bool) (v : ℤ) (o o' r : Option ℤ) → (o ≡ None → o' ≡ r) → (if t then Some v else o) ≡ None → (if t then Some v else o') ≡ r
if_none true v o o' r h e = absurd (none-some v (sym e))
if_none false v o o' r h e = h e

append_some : (b : ℕ) (p q : List (ℕ × ℤ)) (u : ℤ) → number_before b p ≡ Some u → number_before b (p ++ q) ≡ Some u
append_some b [] q u e = absurd (none-some u e)
append_some b (x ∷ p) q u e = if_some (x.0 == b) x.1 (number_before b p) (number_before b (p ++ q)) u (append_some b p q u) e

append_none : (b : ℕ) (p q : List (ℕ × ℤ)) → number_before b p ≡ None → number_before b (p ++ q) ≡ number_before b q
append_none b [] q e = refl
append_none b (x ∷ p) q e = if_none (x.0 == b) x.1 (number_before b p) (number_before b (p ++ q)) (number_before b q) (append_none b p q) e

append_none_left : (b : ℕ) (p q : List (ℕ × ℤ)) → number_before b (p ++ q) ≡ None → number_before b p ≡ None
append_none_left b p q e = by (number_before b p) refl
  where
    by : (o : Option ℤ) → number_before b p ≡ o → number_before b p ≡ None
    by None h = h
    by (Some u) h = absurd (none-some u (sym e ∙ append_some b p q u h))

-- what stood at the address of a pair whose number stood there
number_is : (words : List ℤ) (q : List (ℕ × ℤ)) (address : ℕ) (v : ℤ) → All (λ (pair : ℕ × ℤ). pair.1 ≡ slice_index_or words pair.0 (pos 0)) q
    → number_before address q ≡ Some v → v ≡ slice_index_or words address (pos 0)
number_is words [] address v h e = absurd (none-some v e)
number_is words (x ∷ q) address v h e = by (x.0 == address) refl e (number_is words q address v (All-tail (λ (pair : ℕ × ℤ). pair.1 ≡ slice_index_or words pair.0 (pos 0)) x q h))
  where
    by : (b : Bool) → (x.0 == address) ≡ b → (if b then Some x.1 else number_before address q) ≡ Some v
        → (number_before address q ≡ Some v → v ≡ slice_index_or words address (pos 0)) → v ≡ slice_index_or words address (pos 0)
    by true s g more =
        sym (same_Some x.1 v g) ∙ (All-head (λ (pair : ℕ × ℤ). pair.1 ≡ slice_index_or words pair.0 (pos 0)) x q h
        ∙ ap (λ a. slice_index_or words a (pos 0)) (eqb-true x.0 address s))
    by false s g more = more g

-- a pair whose address none of these has
head_unlike : (x : ℕ × ℤ) (p : List (ℕ × ℤ)) (b : ℕ) → number_before b (x ∷ p) ≡ None → x.0 ≢ b
head_unlike x p b e same = by (x.0 == b) refl e
  where
    by : (t : Bool) → (x.0 == b) ≡ t → (if t then Some x.1 else number_before b p) ≡ None → ⊥
    by true s g = none-some x.1 (sym g)
    by false s g = true≢false (sym (eq-eqb x.0 b same) ∙ s)

tail_none : (x : ℕ × ℤ) (p : List (ℕ × ℤ)) (b : ℕ) → number_before b (x ∷ p) ≡ None → number_before b p ≡ None
tail_none x p b e = by (x.0 == b) e
  where
    by : (t : Bool) → (if t then Some x.1 else number_before b p) ≡ None → number_before b p ≡ None
    by true g = absurd (none-some x.1 (sym g))
    by false g = g

-- ---- no two pairs of both have one address

abbrev Unlike : ℕ × ℤ → ℕ × ℤ → Type 0
Unlike pair other = pair.0 ≢ other.0

tail_pairs : (x : ℕ × ℤ) (p : List (ℕ × ℤ)) → AllPairs Unlike (x ∷ p) → AllPairs Unlike p
tail_pairs x p h i j d before within = h (suc i) (suc j) d (omega (arith, before)) (omega (arith, within))

head_pairs : (x : ℕ × ℤ) (p : List (ℕ × ℤ)) → AllPairs Unlike (x ∷ p) → All (Unlike x) p
head_pairs x p h k d within = h 0 (suc k) d (omega arith) (omega (arith, within))

once_both : (p q : List (ℕ × ℤ)) → AllPairs Unlike p → AllPairs Unlike q → All (λ (pair : ℕ × ℤ). number_before pair.0 p ≡ None) q → AllPairs Unlike (p ++ q)
once_both [] q h k new = k
once_both (x ∷ p) q h k new =
    AllPairs-cons Unlike x (p ++ q)
    (All-append (Unlike x) p q (head_pairs x p h) (All-weaker (λ (pair : ℕ × ℤ). number_before pair.0 (x ∷ p) ≡ None) (Unlike x) (λ y e. head_unlike x p y.0 e) q new))
    (once_both p q (tail_pairs x p h) k (All-weaker (λ (pair : ℕ × ℤ). number_before pair.0 (x ∷ p) ≡ None) (λ (pair : ℕ × ℤ). number_before pair.0 p ≡ None) (λ y e. tail_none x p y.0 e) q new))

-- ---- both

module _ (before middle after : List ℤ) (first stores : List (ℕ × ℤ))
    (told : TellStores before middle first)
    (notes : NotesStores (record { words = middle; stores = first }) (record { words = after; stores = stores }))
    (count : length middle ≡ length before) where
  number_both : (address : ℕ) (v : ℤ) → number_before address (first ++ notes.new) ≡ Some v → v ≡ slice_index_or before address (pos 0)
  number_both address v e = by (number_before address first) refl
    where
      by : (o : Option ℤ) → number_before address first ≡ o → v ≡ slice_index_or before address (pos 0)
      by (Some u) h = told.number address v (h ∙ (sym (append_some address first notes.new u h) ∙ e))
      by None h =
          number_is middle notes.new address v notes.numbers (sym (append_none address first notes.new h) ∙ e) ∙ told.others address h

  tell_added : TellStores before after (first ++ notes.new)
  tell_added = record {
    within = All-append (λ (pair : ℕ × ℤ). pair.0 < length before) first notes.new told.within
        (subst (λ n. All (λ (pair : ℕ × ℤ). pair.0 < n) notes.new) count notes.within);
    once = once_both first notes.new told.once notes.once notes.unnoted;
    number = number_both;
    others = λ address e.
        notes.others address (ap (number_before address) notes.added ∙ e)
        ∙ told.others address (append_none_left address first notes.new e);
  }

  tell_both : TellStores before after stores
  tell_both = subst (TellStores before after) (sym notes.added) tell_added

pub tell_run : (before middle after : List ℤ) (first stores : List (ℕ × ℤ)) → TellStores before middle first
    → NotesStores (record { words = middle; stores = first }) (record { words = after; stores = stores })
    → length middle ≡ length before → TellStores before after stores
tell_run before middle after first stores told notes count = tell_both before middle after first stores told notes count
