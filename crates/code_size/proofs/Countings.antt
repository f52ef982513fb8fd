-- Going over a list from the left: the number so far, and what is left.
use Rattle.std.proofs.Common.{◌≡◌, ℕ, suc, ◌+◌, ◌<◌, ◌≤◌, List, [], ◌∷◌, length, get_or, drop, map, arith, refl, ap, sym, ◌∙◌, drop-cons, drop_of_length-le}
use Rattle.code_size.specs.Limits.{limited}
use Rattle.code_size.specs.Inner.Sums.{Adds}

pub split : {X : Type 0} (xs : List X) (k : ℕ) (x : X) → k < length xs → x ≡ get_or xs k x → drop k xs ≡ x ∷ drop (k + 1) xs
split xs k x less is =
    let e : suc k ≡ k + 1 = omega arith in
    drop-cons xs k x less ∙ (ap (λ n. get_or xs k x ∷ drop n xs) e ∙ ap (λ y. y ∷ drop (k + 1) xs) (sym is))

pub map_twice : {A B C : Type 0} (f : A → B) (g : B → C) (xs : List A) → map g (map f xs) ≡ map (λ x. g (f x)) xs
map_twice f g [] = refl
map_twice f g (x ∷ xs) = ap (λ l. g (f x) ∷ l) (map_twice f g xs)

module _ {X : Type 0} (rest : List X → ℕ) (own : X → ℕ) (law : (x : X) (xs : List X) → rest (x ∷ xs) ≡ own x + rest xs) where
  -- a number so far, which with that of the rest makes the total
  pub record Counts (xs : List X) (k total number : ℕ) : Type 0 where
    pub so_far : ℕ
    pub is : number ≡ limited so_far
    pub left : so_far + rest (drop k xs) ≡ total

  pub counts_from : (xs : List X) (total n number : ℕ) → number ≡ limited n → n + rest xs ≡ total → Counts xs 0 total number
  counts_from xs total n number is h = record { so_far = n; is = is; left = h }

  pub counts_more : (xs : List X) (k total : ℕ) (x : X) (number one new : ℕ) → k < length xs → x ≡ get_or xs k x → Counts xs k total number → one ≡ limited (own x) → Adds number one new → Counts xs (k + 1) total new
  counts_more xs k total x number one new less is h o adds = record {
    so_far = h.so_far + own x;
    is = adds h.so_far (own x) h.is o;
    left = omega (arith, h.left, ap rest (split xs k x less is), law x (drop (k + 1) xs));
  }

  pub counts_none : (xs : List X) (k total number : ℕ) → length xs ≤ k → Counts xs k total number → rest [] ≡ 0 → number ≡ limited total
  counts_none xs k total number le h e =
      let z : h.so_far ≡ h.so_far + rest [] = omega (arith, e) in
      h.is ∙ ap limited (z ∙ (ap (λ l. h.so_far + rest l) (sym (drop_of_length-le xs le)) ∙ h.left))
