-- The fronts of texts.
use Rattle.std.proofs.Common.{◌≡◌, ◌+◌, ◌<◌, ℕ, zero, suc, Bool, true, false, cond, if◌then◌else◌, List, [], ◌∷◌, length, take, drop, codes, Option, Some, None, refl, ap, ◌&&◌, ◌∙◌, length-drop, drop-drop, arith}
use Rattle.std.specs.Option.{option_map}
use Rattle.std.specs.Char.{is_ascii_digit}
use Rattle.std.specs.List.{prefix_len, list_all}
use Rattle.std.proofs.Common.{slice_index}
use Rattle.tri_base.specs.Names.{starts_with_digit}
use Rattle.st_tree.specs.Words.{begins_with}
use Rattle.st_tree.specs.Lexes.{comment_end}

one_more : (p : ℕ → Bool) (x : ℕ) (xs : List ℕ) → list_all p (take (prefix_len p xs) xs) ≡ true → (t : Bool) → p x ≡ t
    → list_all p (take (cond t (1 + prefix_len p xs) 0) (x ∷ xs)) ≡ true
one_more p x xs h true e =
    let one : 1 + prefix_len p xs ≡ suc (prefix_len p xs) = omega arith in
    ap (λ n. list_all p (take n (x ∷ xs))) one ∙ (ap (λ t. t && list_all p (take (prefix_len p xs) xs)) e ∙ h)
one_more p x xs h false e = refl

pub front_is_such : (p : ℕ → Bool) (xs : List ℕ) → list_all p (take (prefix_len p xs) xs) ≡ true
front_is_such p [] = refl
front_is_such p (x ∷ xs) = one_more p x xs (front_is_such p xs) (p x) refl

-- the front of a text whose first byte is no digit
pub no_digit_first : (text : List ℕ) (n : ℕ) → is_ascii_digit (slice_index text 0) ≡ false → starts_with_digit (take n text) ≡ false
no_digit_first [] zero e = refl
no_digit_first [] (suc n) e = refl
no_digit_first (b ∷ bs) zero e = refl
no_digit_first (b ∷ bs) (suc n) e = e

-- ---- a comment's end

one_further : (at : ℕ) (o : Option ℕ) → option_map (λ n. n + at) (option_map (λ n. n + 1) o) ≡ option_map (λ n. n + (at + 1)) o
one_further at None = refl
one_further at (Some n) = let e : n + 1 + at ≡ n + (at + 1) = omega arith in ap (λ k. Some k) e

not_here : (at : ℕ) (left : List ℕ) → 0 < length left → begins_with left (codes "*)") ≡ false
    → option_map (λ n. n + at) (comment_end left) ≡ option_map (λ n. n + (at + 1)) (comment_end (drop 1 left))
not_here at [] some other = absurd (omega arith)
not_here at (b ∷ bs) some other =
    ap (λ t. option_map (λ n. n + at) (if t then Some 2 else option_map (λ n. n + 1) (comment_end bs))) other ∙ one_further at (comment_end bs)

-- where a comment does not end at a place, it ends as the text behind that place does
pub ends_further : (text : List ℕ) (at : ℕ) → at < length text → begins_with (drop at text) (codes "*)") ≡ false
    → option_map (λ n. n + at) (comment_end (drop at text)) ≡ option_map (λ n. n + (at + 1)) (comment_end (drop (at + 1) text))
ends_further text at within other =
    not_here at (drop at text) (omega (arith, length-drop at text, within)) other
    ∙ ap (λ bs. option_map (λ n. n + (at + 1)) (comment_end bs)) (drop-drop 1 at text)
