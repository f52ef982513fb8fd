-- Products of operands, which fit 64 bits.
use Rattle.std.proofs.Common.{◌≡◌, ℤ, ◌*ℤ◌, FitsSigned, w64, to_z, of_z, arith, ap, ◌∙◌}
use Rattle.std.proofs.lemmas.Int.{fits_signed_mul, to_z-of_z, ints}
use Rattle.function_blocks.specs.Values.{IsOperand}
use Rattle.function_blocks.proofs.Dividing.{abs-operand}

-- the product of two operands, as the code has it
pub product_fits : (x y : ℤ) → IsOperand x → IsOperand y → to_z w64 (of_z w64 (to_z w64 (of_z w64 x) *ℤ to_z w64 (of_z w64 y))) ≡ x *ℤ y
product_fits x y p q =
    let e : to_z w64 (of_z w64 x) ≡ x = omega (arith, ints) in
    let f : to_z w64 (of_z w64 y) ≡ y = omega (arith, ints) in
    let fits : FitsSigned w64 (x *ℤ y) = fits_signed_mul w64 x y 2147483648 2147483648 (abs-operand x p) (abs-operand y q) (omega arith) in
    ap (λ z. to_z w64 (of_z w64 (z *ℤ to_z w64 (of_z w64 y)))) e ∙ (ap (λ z. to_z w64 (of_z w64 (x *ℤ z))) f ∙ to_z-of_z w64 (x *ℤ y) fits)
