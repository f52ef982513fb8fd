-- Quotients and remainders of operands, which fit 64 bits.
use Rattle.std.proofs.Common.{◌≡◌, ℕ, zero, suc, ◌≤◌, ◌/◌, if◌then◌else◌, ℤ, pos, negsuc, ◌-ℤ◌, ◌*ℤ◌, Bool, true, FitsSigned, w64, to_z, of_z, arith, sym, subst, ap, ◌∙◌, refl}
use Rattle.std.proofs.Math.Nat.{div-le_self}
use Rattle.std.specs.Prelude.{unsigned_abs, neg_ℤ}
use Rattle.std.specs.Int.RustNames.{int_div, int_rem}
use Rattle.std.proofs.lemmas.Int.{quot_is, rem_is, quot-rem, fits_signed_from_abs, ints}
use Rattle.function_blocks.specs.declared.kinds.Kind.{Kind}
use Rattle.function_blocks.specs.declared.arithmetic.Computed.{Computed}
use Rattle.function_blocks.specs.Values.{IsOperand, is_on}
use Rattle.function_blocks.specs.Arithmetic.{exact, quotient, remainder}

abs-neg : (n : ℕ) → unsigned_abs (neg_ℤ (pos n)) ≡ n
abs-neg zero = refl
abs-neg (suc n) = refl

abs-quot : (x y : ℤ) → unsigned_abs (int_div x y) ≤ unsigned_abs x
abs-quot (pos a) (pos b) = div-le_self a b
abs-quot (pos a) (negsuc b) = subst (λ n. n ≤ a) (sym (abs-neg (a / suc b))) (div-le_self a (suc b))
abs-quot (negsuc a) (pos b) = subst (λ n. n ≤ suc a) (sym (abs-neg (suc a / b))) (div-le_self (suc a) b)
abs-quot (negsuc a) (negsuc b) = div-le_self (suc a) (suc b)

-- an operand is at most 2^31 away from 0
pub abs-operand : (x : ℤ) → IsOperand x → unsigned_abs x ≤ 2147483648
abs-operand (pos a) h = omega (arith, ints)
abs-operand (negsuc a) h = omega (arith, ints)

is_on-not_zero : (y : ℤ) → (of_z w64 y ≡ 0 → ⊥) → is_on y ≡ true
is_on-not_zero (pos zero) h = absurd (h refl)
is_on-not_zero (pos (suc n)) h = refl
is_on-not_zero (negsuc n) h = refl

module _ (kind : Kind) (x y : ℤ) (p : IsOperand x) (q : IsOperand y) (on : of_z w64 y ≡ 0 → ⊥) where
  fits_x : FitsSigned w64 x
  fits_x = fits_signed_from_abs w64 x (omega (arith, abs-operand x p))

  fits_y : FitsSigned w64 y
  fits_y = fits_signed_from_abs w64 y (omega (arith, abs-operand y q))

  fits_quot : FitsSigned w64 (int_div x y)
  fits_quot = fits_signed_from_abs w64 (int_div x y) (omega (arith, abs-operand x p, abs-quot x y))

  pub quotient_is : (r : Computed) → r ≡ exact kind (to_z w64 (of_z w64 (int_div (to_z w64 (of_z w64 x)) (to_z w64 (of_z w64 y))))) → r ≡ quotient kind x y
  quotient_is r e =
      e ∙ (ap (exact kind) (quot_is w64 x y fits_x fits_y fits_quot)
      ∙ ap (λ (b : Bool). if b then exact kind (int_div x y) else record { value = pos 0; flag = true }) (sym (is_on-not_zero y on)))

  pub remainder_is : (r : Computed) → r ≡ exact kind (to_z w64 (of_z w64 (int_rem (to_z w64 (of_z w64 x)) (to_z w64 (of_z w64 y))))) → r ≡ remainder kind x y
  remainder_is r e =
      let left : int_rem x y ≡ x -ℤ int_div x y *ℤ y = omega (arith, ints, quot-rem x y) in
      e ∙ (ap (exact kind) (rem_is w64 x y fits_x fits_y ∙ left)
      ∙ ap (λ (b : Bool). if b then exact kind (x -ℤ int_div x y *ℤ y) else record { value = pos 0; flag = true }) (sym (is_on-not_zero y on)))
