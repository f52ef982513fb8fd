-- The first place at which a test passes in a list.
use Rattle.std.proofs.Common.{◌≡◌, ℕ, ◌<◌, ◌≤◌, ◌+◌, zero, suc, Bool, true, false, not, cond, nat_lt, ◌||◌, List, [], ◌∷◌, ◌++◌, length, map, take, slice_get, Option, Some, None, Bor, refl, sym, ap, ◌∙◌, arith}
use Rattle.std.specs.List.{position, position_or_len, find, list_any, HoldsAt}
use Rattle.std.specs.Option.{option_map, option_or, option_copied, MatchOption}
use Rattle.std.proofs.lemmas.Option.{slice_get_past, slice_get-get_or}
use Rattle.std.proofs.lemmas.Bool.Decides.{nat_tests}

past_none : (n : ℕ) → nat_lt n 0 ≡ false
past_none n = grind (arith, nat_tests)

none_past : (n : ℕ) → nat_lt 0 (suc n) ≡ true
none_past n = grind (arith, nat_tests)

both_next : (n m : ℕ) → nat_lt (1 + n) (suc m) ≡ nat_lt n m
both_next n m = grind (arith, nat_tests)

both_suc : (n m : ℕ) → nat_lt (suc n) (suc m) ≡ nat_lt n m
both_suc n m = grind (arith, nat_tests)

one_more : (n : ℕ) → 1 + n ≡ suc n
one_more n = omega arith

shifted : (t : Bool) (n : ℕ) → cond t (Some (1 + n)) None ≡ option_map suc (cond t (Some n) None)
shifted true n = ap Some (one_more n)
shifted false n = refl

-- at the first element, or one place behind that in the others
pub position_cons : {X : Type 0} (p : X → Bool) (x : X) (xs : List X) → position p (x ∷ xs) ≡ cond (p x) (Some 0) (option_map suc (position p xs))
position_cons p x xs = by (p x)
  where
    by : (t : Bool) → cond (nat_lt (cond (not t) (1 + position_or_len p xs) 0) (suc (length xs))) (Some (cond (not t) (1 + position_or_len p xs) 0)) None ≡ cond t (Some 0) (option_map suc (position p xs))
    by true = ap (λ b. cond b (Some 0) None) (none_past (length xs))
    by false = ap (λ b. cond b (Some (1 + position_or_len p xs)) None) (both_next (position_or_len p xs) (length xs)) ∙ shifted (nat_lt (position_or_len p xs) (length xs)) (position_or_len p xs)

-- the element at a place, if there is a place
abbrev pub element_at : {X : Type 0} → Option ℕ → List X → Option X
element_at None xs = None
element_at (Some i) xs = slice_get xs i

behind : {X : Type 0} (o : Option ℕ) (x : X) (xs : List X) → element_at (option_map suc o) (x ∷ xs) ≡ element_at o xs
behind None x xs = refl
behind (Some i) x xs = refl

find_step : {X : Type 0} (p : X → Bool) (x : X) (xs : List X) (t : Bool) → find p xs ≡ element_at (position p xs) xs
    → cond t (Some x) (find p xs) ≡ element_at (cond t (Some 0) (option_map suc (position p xs))) (x ∷ xs)
find_step p x xs true h = refl
find_step p x xs false h = h ∙ sym (behind (position p xs) x xs)

-- what is found is the element at the first place
pub find_there : {X : Type 0} (p : X → Bool) (xs : List X) → find p xs ≡ element_at (position p xs) xs
find_there p [] = refl
find_there p (x ∷ xs) = find_step p x xs (p x) (find_there p xs) ∙ sym (ap (λ o. element_at o (x ∷ xs)) (position_cons p x xs))

pub some_there : {X : Type 0} (p : X → Bool) (xs : List X) (i : ℕ) → Some i ≡ position p xs → slice_get xs i ≡ find p xs
some_there p xs i e = ap (λ o. element_at o xs) e ∙ sym (find_there p xs)

pub none_there : {X : Type 0} (p : X → Bool) (xs : List X) → None ≡ position p xs → None ≡ find p xs
none_there p xs e = ap (λ o. element_at o xs) e ∙ sym (find_there p xs)

-- the element that a look-up by place gives
pub got_at : {X : Type 0} (r : Option (Bor X)) (xs : List X) (i : ℕ) → MatchOption r (length xs ≤ i) (λ x. (i < length xs) × HoldsAt (λ y. x.now ≡ y) xs i) → option_copied r ≡ slice_get xs i
got_at None xs i past = sym (slice_get_past xs i past)
got_at (Some x) xs i h = ap Some (h.1 x.now) ∙ sym (slice_get-get_or xs i x.now h.0)

-- the place lies before another
abbrev pub lies_before : Option ℕ → ℕ → Bool
lies_before None at = false
lies_before (Some i) at = nat_lt i at

before_none : (o : Option ℕ) → false ≡ lies_before o 0
before_none None = refl
before_none (Some i) = sym (past_none i)

before_next : (o : Option ℕ) (at : ℕ) → lies_before o at ≡ lies_before (option_map suc o) (suc at)
before_next None at = refl
before_next (Some i) at = sym (both_suc i at)

any_step : {X : Type 0} (p : X → Bool) (xs : List X) (at : ℕ) (t : Bool) → list_any p (take at xs) ≡ lies_before (position p xs) at
    → (t || list_any p (take at xs)) ≡ lies_before (cond t (Some 0) (option_map suc (position p xs))) (suc at)
any_step p xs at true h = sym (none_past at)
any_step p xs at false h = h ∙ before_next (position p xs) at

-- the test passes among the first elements where its first place lies before their end
pub any_before : {X : Type 0} (p : X → Bool) (xs : List X) (at : ℕ) → list_any p (take at xs) ≡ lies_before (position p xs) at
any_before p [] zero = refl
any_before p [] (suc at) = refl
any_before p (x ∷ xs) zero = before_none (position p (x ∷ xs))
any_before p (x ∷ xs) (suc at) = any_step p xs at (p x) (any_before p xs at) ∙ sym (ap (λ o. lies_before o (suc at)) (position_cons p x xs))

pub any_mapped : {X Y : Type 0} (f : X → Y) (q : Y → Bool) (xs : List X) → list_any q (map f xs) ≡ list_any (λ x. q (f x)) xs
any_mapped f q [] = refl
any_mapped f q (x ∷ xs) = ap (λ b. q (f x) || b) (any_mapped f q xs)

or_next : (o : Option ℕ) (t : Bool) (n : ℕ) → option_map suc (option_or o (cond t (Some n) None)) ≡ option_or (option_map suc o) (cond t (Some (suc n)) None)
or_next None true n = refl
or_next None false n = refl
or_next (Some i) t n = refl

-- with one element more
pub position_last : {X : Type 0} (p : X → Bool) (xs : List X) (y : X) → position p (xs ++ y ∷ []) ≡ option_or (position p xs) (cond (p y) (Some (length xs)) None)
position_last p [] y = position_cons p y [] ∙ refl
position_last p (x ∷ xs) y =
    position_cons p x (xs ++ y ∷ [])
    ∙ (ap (λ o. cond (p x) (Some 0) (option_map suc o)) (position_last p xs y)
    ∙ (by (p x)
    ∙ ap (λ o. option_or o (cond (p y) (Some (suc (length xs))) None)) (sym (position_cons p x xs))))
  where
    by : (t : Bool) → cond t (Some 0) (option_map suc (option_or (position p xs) (cond (p y) (Some (length xs)) None))) ≡ option_or (cond t (Some 0) (option_map suc (position p xs))) (cond (p y) (Some (suc (length xs))) None)
    by true = refl
    by false = or_next (position p xs) (p y) (length xs)
