-- First faults of lists of parts, one part more.
use Rattle.std.proofs.Common.{◌≡◌, ℕ, ◌<◌, ◌≤◌, ◌+◌, List, [], ◌∷◌, ◌++◌, Option, length, take, get_or, map, refl, sym, ap, ◌∙◌, append-nil}
use Rattle.std.specs.List.{flat_map}
use Rattle.std.proofs.lemmas.List.{take_more, take_all}
use Rattle.std.proofs.lemmas.List.Concat.{flat_map-append}
use Rattle.tri_base.specs.declared.faults.TypeFault.{TypeFault}
use Rattle.function_blocks.specs.declared.kinds.Kind.{Kind}
use Rattle.st_types.proofs.Firsts.{first_of_append}
use Rattle.st_types.specs.Inner.Firsts.{soonest}
use Rattle.st_tree.specs.Typing.Faults.{first_of}
use Rattle.st_tree.specs.Typing.Statements.{Loops, Checks, ElementChecks, each_in, elements_in}

pub part_more : {X : Type 0} (f : X → List TypeFault) (xs : List X) (i : ℕ) (x : X) (fault next : Option TypeFault) → i < length xs → x ≡ get_or xs i x
    → fault ≡ first_of (flat_map f (take i xs)) → next ≡ first_of (f x) → soonest fault next ≡ first_of (flat_map f (take (i + 1) xs))
part_more f xs i x fault next here is so one =
    (λ j. soonest (so j) (one j))
    ∙ (sym (first_of_append (flat_map f (take i xs)) (f x))
    ∙ ap first_of (ap (λ l. flat_map f (take i xs) ++ l) (sym (append-nil (f x))) ∙ (sym (flat_map-append f (take i xs) (x ∷ [])) ∙ ap (flat_map f) (ap (λ y. take i xs ++ y ∷ []) is ∙ sym (take_more xs i x here)))))

pub part_end : {X : Type 0} (f : X → List TypeFault) (xs : List X) (i : ℕ) (fault : Option TypeFault) → length xs ≤ i → fault ≡ first_of (flat_map f (take i xs)) → fault ≡ first_of (flat_map f xs)
part_end f xs i fault past so = so ∙ ap (λ ys. first_of (flat_map f ys)) (take_all i xs past)

pub each_mapped : {X : Type 0} (f : X → Checks) (xs : List X) (loops : Loops) → each_in (map f xs) loops ≡ flat_map (λ x. f x loops) xs
each_mapped f [] loops = refl
each_mapped f (x ∷ xs) loops = ap (λ l. f x loops ++ l) (each_mapped f xs loops)

pub elements_mapped : {X : Type 0} (f : X → ElementChecks) (k : Option Kind) (xs : List X) (loops : Loops) → elements_in k (map f xs) loops ≡ flat_map (λ x. f x k loops) xs
elements_mapped f k [] loops = refl
elements_mapped f k (x ∷ xs) loops = ap (λ l. f x k loops ++ l) (elements_mapped f k xs loops)

-- the first fault of two parts, and of more
pub two_parts : (a b : List TypeFault) (x y : Option TypeFault) → x ≡ first_of a → y ≡ first_of b → soonest x y ≡ first_of (a ++ b)
two_parts a b x y p q = (λ i. soonest (p i) (q i)) ∙ sym (first_of_append a b)
