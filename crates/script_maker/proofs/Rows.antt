-- What is made of the numbers of a row, one number at a time, and what a test of each number says.
use Rattle.std.proofs.Common.{◌≡◌, ℕ, ◌+◌, ◌<◌, Bool, true, false, List, [], ◌∷◌, ◌++◌, map, flat_map, length, get_or, refl, sym, ap, ◌∙◌, arith, append_assoc, append-nil}
use Rattle.std.specs.List.{list_all, range_with_len}
use Rattle.std.proofs.lemmas.List.Concat.{flat_map-append}
use Rattle.std.proofs.lemmas.List.Folds.{flat_map-map, list_all_at}
use Rattle.std.proofs.lemmas.List.FromFn.{map-range_with_len_more, length-range_with_len, get_or-range_with_len}

pub pieces_more : (f : ℕ → List ℕ) (a n j : ℕ) → a + n ≡ j → flat_map f (range_with_len a (n + 1)) ≡ flat_map f (range_with_len a n) ++ f j
pieces_more f a n j e =
    sym (flat_map-map f (λ i. i) (range_with_len a (n + 1)))
    ∙ (ap (flat_map f) (map-range_with_len_more (λ i. i) a n j e)
    ∙ (flat_map-append f (map (λ i. i) (range_with_len a n)) (j ∷ [])
    ∙ (λ i. flat_map-map f (λ i. i) (range_with_len a n) i ++ append-nil (f j) i)))

-- a text with one piece more
pub text_more : (f : ℕ → List ℕ) (a n j : ℕ) (start text new : List ℕ) → a + n ≡ j → text ≡ start ++ flat_map f (range_with_len a n) → new ≡ text ++ f j → new ≡ start ++ flat_map f (range_with_len a (n + 1))
text_more f a n j start text new e h k =
    k ∙ (ap (λ t. t ++ f j) h
    ∙ (append_assoc start (flat_map f (range_with_len a n)) (f j)
    ∙ ap (λ t. start ++ t) (sym (pieces_more f a n j e))))

-- a row with one item more
pub row_more : {A : Type 0} (f : ℕ → A) (n : ℕ) (start row new : List A) → row ≡ start ++ map f (range_with_len 0 n) → new ≡ row ++ f n ∷ [] → new ≡ start ++ map f (range_with_len 0 (n + 1))
row_more f n start row new h k =
    k ∙ (ap (λ t. t ++ f n ∷ []) h
    ∙ (append_assoc start (map f (range_with_len 0 n)) (f n ∷ [])
    ∙ ap (λ t. start ++ t) (sym (map-range_with_len_more f 0 n n (omega arith)))))

-- a test that each number passes is passed by one of them
pub passes : (p : ℕ → Bool) (n i : ℕ) → list_all p (range_with_len 0 n) ≡ true → i < n → p i ≡ true
passes p n i h lt = by (p i) refl
  where
    by : (t : Bool) → p i ≡ t → p i ≡ true
    by true e = e
    by false e =
        let at : get_or (range_with_len 0 n) i 0 ≡ i = get_or-range_with_len 0 n i 0 lt ∙ omega arith in
        let inside : i < length (range_with_len 0 n) = omega (arith, lt, length-range_with_len 0 n) in
        let w : false ≡ true = sym (list_all_at p (range_with_len 0 n) i 0 inside (ap p at ∙ e)) ∙ h in
        absurd (cc)

-- three pieces behind a text
pub three : (start x y p q r : List ℕ) → x ≡ start ++ p → y ≡ x ++ q → y ++ r ≡ start ++ (p ++ (q ++ r))
three start x y p q r h k =
    ap (λ t. t ++ r) (k ∙ ap (λ t. t ++ q) h)
    ∙ (append_assoc (start ++ p) q r ∙ append_assoc start p (q ++ r))
