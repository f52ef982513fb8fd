-- Texts written piece by piece.
use Rattle.std.proofs.Common.{◌≡◌, ◌∙◌, ◌+◌, ◌++◌, ◌∷◌, [], ℕ, List, Some, take, slice_get, ap, sym}
use Rattle.std.specs.List.{flat_map}
use Rattle.std.proofs.lemmas.List.{flat_map_more, take_more}
use Rattle.std.proofs.lemmas.Option.{get_or_from_slice_get, slice_get_within}

take_one : {X : Type 0} (xs : List X) (i : ℕ) (x : X) → slice_get xs i ≡ Some x
    → take (i + 1) xs ≡ take i xs ++ x ∷ []
take_one xs i x h =
    take_more xs i x (slice_get_within xs i x h)
    ∙ ap (λ y. take i xs ++ y ∷ []) (get_or_from_slice_get xs i x x h)

-- one piece more of a row
pub piece_more : {X : Type 0} (f : X → List ℕ) (xs : List X) (i : ℕ) (x : X) (old text new : List ℕ)
    → slice_get xs i ≡ Some x → text ≡ old ++ flat_map f (take i xs) → new ≡ text ++ f x
    → new ≡ old ++ flat_map f (take (i + 1) xs)
piece_more f xs i x old text new h so_far is =
    is
    ∙ (ap (λ l. l ++ f x) so_far
    ∙ (flat_map_more f old (take i xs) x
    ∙ ap (λ l. old ++ flat_map f l) (sym (take_one xs i x h))))
