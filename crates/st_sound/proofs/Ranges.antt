-- Where no rule is broken, numbers lie in their ranges.
use Rattle.std.proofs.Common.{◌≡◌, ◌≢◌, ℕ, ℤ, pos, neg_ℤ, ◌≤ℤ◌, int_le, Bool, true, false, not, List, [], ◌∷◌, ◌++◌, arith, refl, ap, sym, ◌∙◌, true≢false}
use Rattle.std.specs.Ordering.{int_eq}
use Rattle.std.proofs.lemmas.Bool.{not-false, and_parts}
use Rattle.std.proofs.lemmas.Int.{ints}
use Rattle.tri_base.specs.declared.faults.TypeCause.{TypeCause}
use Rattle.function_blocks.specs.declared.kinds.Kind.{Kind}
use Rattle.function_blocks.specs.declared.kinds.Kind.TheVariants as kind
use Rattle.function_blocks.specs.Values.{least, greatest, IsOperand}
use Rattle.scan_machine.specs.Rules.{IsOf}
use Rattle.st_tree.specs.declared.declaration.Integer.{Integer}
use Rattle.st_tree.specs.Integers.{integer_value}
use Rattle.st_tree.specs.Typing.Faults.{fault_if}
use Rattle.st_tree.specs.Typing.Literals.{holds, range_faults}

-- two lists that are none together are none
pub none_both : {X : Type 0} (xs ys : List X) → xs ++ ys ≡ [] → (xs ≡ []) × (ys ≡ [])
none_both [] ys h = (refl, h)
none_both (x ∷ xs) ys h = absurd (cc)

-- a rule that isn't broken
pub not_broken : (b : Bool) (place : ℕ) (cause : TypeCause) → fault_if b place cause ≡ [] → b ≡ false
not_broken true place cause h = absurd (cc)
not_broken false place cause h = refl

at_most : (a b : ℤ) → int_le a b ≡ true → a ≤ℤ b
at_most a b h = grind (arith, ints, h)

-- a literal that is no fault lies in the range of its type
pub in_range : (k : Kind) (i : Integer) → range_faults k i ≡ [] → IsOf k (integer_value i)
in_range k i h =
    let held : holds k (integer_value i) ≡ true = not-false (holds k (integer_value i)) (not_broken (not (holds k (integer_value i))) i.place _ h) in
    let both = and_parts (int_le (least k) (integer_value i)) (int_le (integer_value i) (greatest k)) held in
    (at_most (least k) (integer_value i) both.0, at_most (integer_value i) (greatest k) both.1)

-- a value of a type can be a constant
pub operand_of : (k : Kind) (v : ℤ) → IsOf k v → IsOperand v
operand_of kind.Bool v h = (omega (arith, ints, h.0), omega (arith, ints, h.1))
operand_of kind.Int v h = (omega (arith, ints, h.0), omega (arith, ints, h.1))
operand_of kind.Dint v h = (omega (arith, ints, h.0), omega (arith, ints, h.1))

-- a number that a minus sign makes a value of a type can be a constant
pub negated_operand : (k : Kind) (n : ℕ) → IsOf k (neg_ℤ (pos n)) → IsOperand (pos n)
negated_operand kind.Bool n h = (omega (arith, ints), omega (arith, ints, h.0))
negated_operand kind.Int n h = (omega (arith, ints), omega (arith, ints, h.0))
negated_operand kind.Dint n h = (omega (arith, ints), omega (arith, ints, h.0))

-- a number that isn't 0
pub not_zero : (v : ℤ) → int_eq v (pos 0) ≡ false → v ≢ pos 0
not_zero v h e = true≢false (sym (ap (λ w. int_eq w (pos 0)) e) ∙ h)
