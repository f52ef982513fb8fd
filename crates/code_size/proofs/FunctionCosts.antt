-- What functions cost, by their arguments.
use Rattle.std.proofs.Common.{◌≡◌, ℕ, ◌+◌, List, [], ◌∷◌, length, map, arith, refl}
use Rattle.st_core.specs.Core.{Term}
use Rattle.st_core.specs.Costs.{term_cost}
use Rattle.st_meaning.specs.Functions.{Operator, OneOperand, TwoOperands, ThreeOperands, combined}
use Rattle.code_size.specs.Inner.Functions.{further}

-- arguments in a row
unfoldable pub argument_cost : {X : Type 0} → (X → Term) → List X → ℕ
argument_cost f [] = 0
argument_cost f (x ∷ xs) = term_cost (f x) + argument_cost f xs

pub cost_law : {X : Type 0} (f : X → Term) (x : X) (xs : List X) → argument_cost f (x ∷ xs) ≡ term_cost (f x) + argument_cost f xs
unfolding argument_cost
cost_law f x xs = refl

pub no_cost : {X : Type 0} (f : X → Term) → argument_cost f [] ≡ 0
unfolding argument_cost
no_cost f = refl

pub combined_cost : {X : Type 0} (o : Operator) (t : Term) (f : X → Term) (xs : List X) → length xs ≡ further o → term_cost t + argument_cost f xs + 1 ≡ term_cost (combined o t (map f xs))
unfolding term_cost argument_cost combined
combined_cost (OneOperand o) t f [] e = omega arith
combined_cost (OneOperand o) t f (x ∷ xs) e = absurd (omega (arith, e))
combined_cost (TwoOperands o) t f [] e = absurd (omega (arith, e))
combined_cost (TwoOperands o) t f (x ∷ []) e = omega arith
combined_cost (TwoOperands o) t f (x ∷ y ∷ xs) e = absurd (omega (arith, e))
combined_cost (ThreeOperands o) t f [] e = absurd (omega (arith, e))
combined_cost (ThreeOperands o) t f (x ∷ []) e = absurd (omega (arith, e))
combined_cost (ThreeOperands o) t f (x ∷ y ∷ []) e = omega arith
combined_cost (ThreeOperands o) t f (x ∷ y ∷ z ∷ xs) e = absurd (omega (arith, e))

-- too many arguments or too few
pub other_cost : {X : Type 0} (o : Operator) (t : Term) (f : X → Term) (xs : List X) → (length xs ≡ further o → ⊥) → 1 ≡ term_cost (combined o t (map f xs))
unfolding term_cost combined
other_cost (OneOperand o) t f [] e = absurd (e refl)
other_cost (OneOperand o) t f (x ∷ xs) e = refl
other_cost (TwoOperands o) t f [] e = refl
other_cost (TwoOperands o) t f (x ∷ []) e = absurd (e refl)
other_cost (TwoOperands o) t f (x ∷ y ∷ xs) e = refl
other_cost (ThreeOperands o) t f [] e = refl
other_cost (ThreeOperands o) t f (x ∷ []) e = refl
other_cost (ThreeOperands o) t f (x ∷ y ∷ []) e = absurd (e refl)
other_cost (ThreeOperands o) t f (x ∷ y ∷ z ∷ xs) e = refl
