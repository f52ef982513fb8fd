-- Operands grouped to the left, one by one.
use Rattle.std.proofs.Common.{◌≡◌, ℕ, ◌+◌, ◌<◌, ◌≤◌, List, [], ◌∷◌, ◌++◌, length, take, get_or, map, refl, ap, sym, ◌∙◌}
use Rattle.std.proofs.lemmas.List.{take_more, take_all, map-append}
use Rattle.std.proofs.lemmas.Grind.{fold-append}
use Rattle.st_tree.specs.declared.expression.Operation.{Operation}
use Rattle.st_types.specs.declared.finding.Finding.{Finding}
use Rattle.st_types.specs.declared.finding.Checked.{Checked}
use Rattle.st_types.specs.Inner.Summaries.{finding_of, checked_of}
use Rattle.st_tree.proofs.ExpressionEquations.{with_operand}
use Rattle.st_tree.specs.Typing.Operands.{Outcome, Typing, found, chain}
use Rattle.st_tree.specs.Listed.{operands}

pub operands-map : {O X : Type 0} (f : X → Typing) (xs : List (Operation O X)) → operands (map (with_operand f) xs) ≡ map (λ x. f x.operand) xs
operands-map f [] = refl
operands-map f (x ∷ xs) = ap (λ l. f x.operand ∷ l) (operands-map f xs)

chain-first : (rule : Typing → Typing → Outcome) (first : Typing) (ts : List Typing) → (chain rule first ts).first ≡ first.first
chain-first rule first [] = refl
chain-first rule first (t ∷ ts) = chain-first rule (found first.first (rule first t)) ts

chain-more : {X : Type 0} (rule : Typing → Typing → Outcome) (first : Typing) (f : X → Typing) (xs : List X) (i : ℕ) (x : X) → i < length xs → x ≡ get_or xs i x
    → chain rule first (map f (take (i + 1) xs)) ≡ found (chain rule first (map f (take i xs))).first (rule (chain rule first (map f (take i xs))) (f x))
chain-more rule first f xs i x here is =
    ap (λ l. chain rule first (map f l)) (take_more xs i x here ∙ ap (λ y. take i xs ++ y ∷ []) (sym is))
    ∙ (ap (chain rule first) (map-append f (take i xs) (x ∷ []))
    ∙ fold-append (λ (left right : Typing). found left.first (rule left right)) first (map f (take i xs)) (f x ∷ []))

-- what is kept of one operand more
pub chain_step : {X : Type 0} (rule : Typing → Typing → Outcome) (kept : Checked → Checked → Finding) → ((a b : Typing) → finding_of (rule a b) ≡ kept (checked_of a) (checked_of b))
    → (first : Typing) (f : X → Typing) (xs : List X) (i : ℕ) (x : X) (left right : Checked) → i < length xs → x ≡ get_or xs i x
    → left ≡ checked_of (chain rule first (map f (take i xs))) → right ≡ checked_of (f x)
    → record { first = left.first; finding = kept left right } ≡ checked_of (chain rule first (map f (take (i + 1) xs)))
chain_step rule kept same first f xs i x left right here is l r =
    (λ j. record { first = (l j).first; finding = kept (l j) (r j) })
    ∙ ((λ j. record { first = (chain rule first (map f (take i xs))).first; finding = sym (same (chain rule first (map f (take i xs))) (f x)) j })
    ∙ ap checked_of (sym (chain-more rule first f xs i x here is)))

-- what is kept at the end
pub chain_done : {X : Type 0} (rule : Typing → Typing → Outcome) (first : Typing) (f : X → Typing) (xs ys : List X) (i : ℕ) (left : Checked) (whole : Typing) → length xs ≤ i → xs ≡ ys
    → left ≡ checked_of (chain rule first (map f (take i xs))) → whole ≡ chain rule first (map f ys) → left ≡ checked_of whole
chain_done rule first f xs ys i left whole past same l w =
    l ∙ (ap (λ zs. checked_of (chain rule first (map f zs))) (take_all i xs past ∙ same) ∙ ap checked_of (sym w))
