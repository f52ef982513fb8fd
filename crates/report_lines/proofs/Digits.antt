-- Numbers of one digit.
use Rattle.std.proofs.Common.{◌≡◌, ℤ, pos, negsuc, true, ◌+◌, ◌<◌, [], ◌∷◌, ap, sym, ◌∙◌, arith}
use Rattle.std.specs.Prelude.{int_le, int_lt, nat_abs}
use Rattle.std.proofs.lemmas.Fmt.{decimal_digit}
use Rattle.report_lines.specs.Lines.{spaced}

-- a number of one digit is written by one byte
pub one_digit : (z w : ℤ) → w ≡ z → int_le (pos 0) w ≡ true → int_lt w (pos 10) ≡ true → 32 ∷ (48 + nat_abs w) ∷ [] ≡ spaced z
one_digit z (pos n) same low high =
    let small : n < 10 = grind (arith, high) in
    ap (λ l. 32 ∷ l) (sym (decimal_digit n small)) ∙ ap spaced same
one_digit z (negsuc n) same low high = absurd (cc low)
