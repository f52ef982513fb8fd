-- The own type of operands in a row.
use Rattle.std.proofs.Common.{◌≡◌, ℕ, ◌+◌, ◌<◌, true, false, List, [], ◌∷◌, length, get_or, take, fold, Option, Some, ◌==◌, arith, refl, ap, sym, ◌∙◌, eqb-true}
use Rattle.std.proofs.lemmas.List.Sums.{fold_more}
use Rattle.st_tree.specs.declared.expression.Operation.{Operation}
use Rattle.function_blocks.specs.declared.kinds.Kind.{Kind}
use Rattle.function_blocks.specs.declared.kinds.Kind.TheVariants as k
use Rattle.st_core.specs.Core.{BinaryOperator}
use Rattle.st_meaning.specs.Expressions.{Elaborated, arithmetic, common}

-- one alone
pub alone : {X : Type 0} (f : Elaborated → X → Elaborated) (a : Elaborated) (xs ys : List X) → ys ≡ xs → true ≡ (length ys == 0) → fold f a xs ≡ a
alone f a [] ys e h = refl
alone f a (x ∷ xs) ys e h = let l : length ys ≡ length (x ∷ xs) = ap length e in absurd (omega (arith, l, eqb-true (length ys) 0 (sym h)))

truths_on : {X : Type 0} (f : Elaborated → X → Elaborated) → ((a : Elaborated) (x : X) → (f a x).own ≡ Some k.Bool) → (a : Elaborated) (xs : List X) → a.own ≡ Some k.Bool → (fold f a xs).own ≡ Some k.Bool
truths_on f h a [] e = e
truths_on f h a (x ∷ xs) e = truths_on f h (f a x) xs (h a x)

no_length : {X : Type 0} (ys : List X) → ys ≡ [] → false ≡ (length ys == 0) → ⊥
no_length [] e some = absurd (cc)
no_length (y ∷ ys) e some = let l : length (y ∷ ys) ≡ 0 = ap length e in absurd (omega (arith, l))

-- several that make a BOOL
pub truths : {X : Type 0} (f : Elaborated → X → Elaborated) → ((a : Elaborated) (x : X) → (f a x).own ≡ Some k.Bool) → (a : Elaborated) (xs ys : List X) → ys ≡ xs → false ≡ (length ys == 0) → Some k.Bool ≡ (fold f a xs).own
truths f h a [] ys e some = absurd (no_length ys e some)
truths f h a (x ∷ xs) ys e some = sym (truths_on f h (f a x) xs (h a x))

-- one more of arithmetic
pub own_more : {O A : Type 0} (operator : O → Kind → BinaryOperator) (f : A → Elaborated) (a : Elaborated) (xs : List (Operation O A)) (i : ℕ) (x : Operation O A) (old new one : Option Kind)
    → i < length xs → x ≡ get_or xs i x → old ≡ (fold (λ (a : Elaborated) (x : Operation O A). arithmetic (operator x.operator) a (f x.operand)) a (take i xs)).own → one ≡ (f x.operand).own → new ≡ common old one
    → new ≡ (fold (λ (a : Elaborated) (x : Operation O A). arithmetic (operator x.operator) a (f x.operand)) a (take (i + 1) xs)).own
own_more {O} {A} operator f a xs i x old new one less is so own e =
    let step = λ (a : Elaborated) (x : Operation O A). arithmetic (operator x.operator) a (f x.operand) in
    e ∙ (ap (λ o. common o one) so ∙ (ap (common (fold step a (take i xs)).own) own
    ∙ (ap (λ (y : Operation O A). common (fold step a (take i xs)).own (f y.operand).own) is
    ∙ sym (ap (λ (j : Elaborated). j.own) (fold_more step a xs i x less)))))
