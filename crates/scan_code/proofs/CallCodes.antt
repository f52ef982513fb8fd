-- The code of functions, by their arguments.
use Rattle.std.proofs.Common.{◌≡◌, pos, List, [], ◌∷◌, ◌++◌, length, map, arith, refl, ap, sym, ◌∙◌, append_assoc, append-nil}
use Rattle.scan_machine.specs.declared.instructions.Instr.{Instr}
use Rattle.scan_machine.specs.declared.instructions.Instr.TheVariants as i
use Rattle.st_core.specs.Core.{Term}
use Rattle.st_core.specs.Memory.{Shape}
use Rattle.st_core.specs.Codes.{term_code, binary_instr, ternary_instr}
use Rattle.st_meaning.specs.Functions.{Operator, OneOperand, TwoOperands, ThreeOperands, combined}
use Rattle.code_size.specs.Inner.Functions.{further}
use Rattle.scan_code.specs.Inner.Operators.{operator_instr}

-- arguments in a row
unfoldable pub argument_code : {X : Type 0} → Shape → (X → Term) → List X → List Instr
argument_code shape f [] = []
argument_code shape f (x ∷ xs) = term_code shape (f x) ++ argument_code shape f xs

pub code_law : {X : Type 0} (shape : Shape) (f : X → Term) (x : X) (xs : List X) → argument_code shape f (x ∷ xs) ≡ term_code shape (f x) ++ argument_code shape f xs
unfolding argument_code
code_law shape f x xs = refl

pub no_code : {X : Type 0} (shape : Shape) (f : X → Term) → argument_code shape f [] ≡ []
unfolding argument_code
no_code shape f = refl

combined_code : {X : Type 0} (shape : Shape) (o : Operator) (t : Term) (f : X → Term) (xs : List X) → length xs ≡ further o
    → term_code shape (combined o t (map f xs)) ≡ term_code shape t ++ (argument_code shape f xs ++ operator_instr o ∷ [])
unfolding term_code argument_code combined
combined_code shape (OneOperand o) t f [] e = refl
combined_code shape (OneOperand o) t f (x ∷ xs) e = absurd (omega (arith, e))
combined_code shape (TwoOperands o) t f [] e = absurd (omega (arith, e))
combined_code shape (TwoOperands o) t f (x ∷ []) e = ap (λ l. term_code shape t ++ (l ++ binary_instr o ∷ [])) (sym (append-nil (term_code shape (f x))))
combined_code shape (TwoOperands o) t f (x ∷ y ∷ xs) e = absurd (omega (arith, e))
combined_code shape (ThreeOperands o) t f [] e = absurd (omega (arith, e))
combined_code shape (ThreeOperands o) t f (x ∷ []) e = absurd (omega (arith, e))
combined_code shape (ThreeOperands o) t f (x ∷ y ∷ []) e =
    ap (λ l. term_code shape t ++ l) (ap (λ l. term_code shape (f x) ++ (l ++ ternary_instr o ∷ [])) (sym (append-nil (term_code shape (f y))))
    ∙ sym (append_assoc (term_code shape (f x)) (term_code shape (f y) ++ []) (ternary_instr o ∷ [])))
combined_code shape (ThreeOperands o) t f (x ∷ y ∷ z ∷ xs) e = absurd (omega (arith, e))

-- all arguments, and the instruction behind them
pub call_code : {X : Type 0} (shape : Shape) (o : Operator) (t : Term) (f : X → Term) (xs : List X) (old here new : List Instr) → length xs ≡ further o
    → here ≡ (old ++ term_code shape t) ++ argument_code shape f xs → new ≡ here ++ operator_instr o ∷ [] → new ≡ old ++ term_code shape (combined o t (map f xs))
call_code shape o t f xs old here new e h w =
    w ∙ (ap (λ l. l ++ operator_instr o ∷ []) h ∙ (append_assoc (old ++ term_code shape t) (argument_code shape f xs) (operator_instr o ∷ [])
    ∙ (append_assoc old (term_code shape t) (argument_code shape f xs ++ operator_instr o ∷ []) ∙ ap (λ l. old ++ l) (sym (combined_code shape o t f xs e)))))

-- too many arguments or too few
pub other_code : {X : Type 0} (shape : Shape) (o : Operator) (t : Term) (f : X → Term) (xs : List X) → (length xs ≡ further o → ⊥) → i.Push (pos 0) ∷ [] ≡ term_code shape (combined o t (map f xs))
unfolding term_code combined
other_code shape (OneOperand o) t f [] e = absurd (e refl)
other_code shape (OneOperand o) t f (x ∷ xs) e = refl
other_code shape (TwoOperands o) t f [] e = refl
other_code shape (TwoOperands o) t f (x ∷ []) e = absurd (e refl)
other_code shape (TwoOperands o) t f (x ∷ y ∷ xs) e = refl
other_code shape (ThreeOperands o) t f [] e = refl
other_code shape (ThreeOperands o) t f (x ∷ []) e = refl
other_code shape (ThreeOperands o) t f (x ∷ y ∷ []) e = absurd (e refl)
other_code shape (ThreeOperands o) t f (x ∷ y ∷ z ∷ xs) e = refl
