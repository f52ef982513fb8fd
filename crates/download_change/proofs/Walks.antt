-- A walk over a list, by what a function gives of the elements that are left.
use Rattle.std.proofs.Common.{◌≡◌, ℕ, ◌<◌, ◌≤◌, ◌+◌, suc, Bool, true, false, cond, ◌||◌, List, [], ◌∷◌, length, map, get_or, drop, Some, None, refl, sym, ap, ◌∙◌, drop-cons, add-one, true≢false}
use Rattle.std.specs.Prelude.{IfSome}
use Rattle.std.specs.List.{All, find, list_any}
use Rattle.std.specs.Option.{option_map}
use Rattle.std.proofs.lemmas.List.Elements.{All-head, All-tail}
use Rattle.std.proofs.lemmas.List.{drop_all}

-- the elements that are left begin with this one
pub opened : {X : Type 0} (xs : List X) (i : ℕ) (x : X) → i < length xs → x ≡ get_or xs i x → drop i xs ≡ x ∷ drop (i + 1) xs
opened xs i x here is = rw (add-one, drop-cons xs i x here) (λ j. sym is j ∷ drop (suc i) xs)

-- an element that adds nothing
pub passed : {X A : Type 0} (f : List X → A) (xs : List X) (i : ℕ) (x : X) (whole : A) → i < length xs → x ≡ get_or xs i x
    → f (x ∷ drop (i + 1) xs) ≡ f (drop (i + 1) xs) → f (drop i xs) ≡ whole → f (drop (i + 1) xs) ≡ whole
passed f xs i x whole here is same h = sym same ∙ (ap f (sym (opened xs i x here is)) ∙ h)

-- an element that decides
pub met : {X A : Type 0} (f : List X → A) (xs : List X) (i : ℕ) (x : X) (value whole : A) → i < length xs → x ≡ get_or xs i x
    → f (x ∷ drop (i + 1) xs) ≡ value → f (drop i xs) ≡ whole → value ≡ whole
met f xs i x value whole here is decides h = sym decides ∙ (ap f (sym (opened xs i x here is)) ∙ h)

-- no element is left
pub ended : {X A : Type 0} (f : List X → A) (xs : List X) (i : ℕ) (whole : A) → length xs ≤ i → f (drop i xs) ≡ whole → f [] ≡ whole
ended f xs i whole past h = ap f (sym (drop_all i xs past)) ∙ h

-- ---- the same for what is found, or is there

pub any_met : {X : Type 0} (p : X → Bool) (xs : List X) (i : ℕ) (x : X) → i < length xs → x ≡ get_or xs i x → p x ≡ true → list_any p (drop i xs) ≡ list_any p xs → true ≡ list_any p xs
any_met p xs i x here is e h = met (list_any p) xs i x true (list_any p xs) here is (ap (λ b. b || list_any p (drop (i + 1) xs)) e) h

pub any_passed : {X : Type 0} (p : X → Bool) (xs : List X) (i : ℕ) (x : X) → i < length xs → x ≡ get_or xs i x → p x ≡ false → list_any p (drop i xs) ≡ list_any p xs → list_any p (drop (i + 1) xs) ≡ list_any p xs
any_passed p xs i x here is e h = passed (list_any p) xs i x (list_any p xs) here is (ap (λ b. b || list_any p (drop (i + 1) xs)) e) h

pub find_met : {X : Type 0} (p : X → Bool) (xs : List X) (i : ℕ) (x : X) → i < length xs → x ≡ get_or xs i x → p x ≡ true → find p (drop i xs) ≡ find p xs → Some x ≡ find p xs
find_met p xs i x here is e h = met (find p) xs i x (Some x) (find p xs) here is (ap (λ b. cond b (Some x) (find p (drop (i + 1) xs))) e) h

pub find_passed : {X : Type 0} (p : X → Bool) (xs : List X) (i : ℕ) (x : X) → i < length xs → x ≡ get_or xs i x → p x ≡ false → find p (drop i xs) ≡ find p xs → find p (drop (i + 1) xs) ≡ find p xs
find_passed p xs i x here is e h = passed (find p) xs i x (find p xs) here is (ap (λ b. cond b (Some x) (find p (drop (i + 1) xs))) e) h

-- ---- what is found

pub find_passes : {X : Type 0} (p : X → Bool) (xs : List X) (x : X) → find p xs ≡ Some x → p x ≡ true
find_passes p [] x h = absurd (cc)
find_passes p (y ∷ ys) x h = by (find_passes p ys x) (p y) refl h
  where
    by : (find p ys ≡ Some x → p x ≡ true) → (t : Bool) → p y ≡ t → cond t (Some y) (find p ys) ≡ Some x → p x ≡ true
    by rest true e k = let same : y ≡ x = cc in ap p (sym same) ∙ e
    by rest false e k = rest k

pub found_there : {X : Type 0} (p : X → Bool) (xs : List X) (x : X) → find p xs ≡ Some x → list_any p xs ≡ true
found_there p [] x h = absurd (cc)
found_there p (y ∷ ys) x h = by (found_there p ys x) (p y) h
  where
    by : (find p ys ≡ Some x → list_any p ys ≡ true) → (t : Bool) → cond t (Some y) (find p ys) ≡ Some x → (t || list_any p ys) ≡ true
    by rest true k = refl
    by rest false k = rest k

pub none_there : {X : Type 0} (p : X → Bool) (xs : List X) → find p xs ≡ None → list_any p xs ≡ false
none_there p [] h = refl
none_there p (y ∷ ys) h = by (none_there p ys) (p y) h
  where
    by : (find p ys ≡ None → list_any p ys ≡ false) → (t : Bool) → cond t (Some y) (find p ys) ≡ None → (t || list_any p ys) ≡ false
    by rest true k = absurd (cc)
    by rest false k = rest k

pub none_found : {X : Type 0} (p : X → Bool) (xs : List X) → list_any p xs ≡ false → find p xs ≡ None
none_found p [] h = refl
none_found p (y ∷ ys) h = by (none_found p ys) (p y) h
  where
    by : (list_any p ys ≡ false → find p ys ≡ None) → (t : Bool) → (t || list_any p ys) ≡ false → cond t (Some y) (find p ys) ≡ None
    by rest true k = absurd (true≢false k)
    by rest false k = rest k

-- what holds of all holds of what is found
pub found_all : {X : Type 0} (P : X → Type 0) (p : X → Bool) (xs : List X) → All P xs → IfSome (find p xs) P
found_all P p [] h = tt
found_all P p (y ∷ ys) h = by (All-head P y ys h) (found_all P p ys (All-tail P y ys h)) (p y)
  where
    by : P y → IfSome (find p ys) P → (t : Bool) → IfSome (cond t (Some y) (find p ys)) P
    by this rest true = this
    by this rest false = rest

-- a look-up among what is made of each
pub find_mapped : {X Y : Type 0} (f : X → Y) (q : Y → Bool) (xs : List X) → find q (map f xs) ≡ option_map f (find (λ x. q (f x)) xs)
find_mapped f q [] = refl
find_mapped f q (x ∷ xs) = by (q (f x)) (find_mapped f q xs)
  where
    by : (t : Bool) → find q (map f xs) ≡ option_map f (find (λ y. q (f y)) xs) → cond t (Some (f x)) (find q (map f xs)) ≡ option_map f (cond t (Some x) (find (λ y. q (f y)) xs))
    by true h = refl
    by false h = h
