-- Pairs of hexadecimal digits, one after the other.
use Rattle.std.proofs.Common.{◌≡◌, ◌∙◌, ◌≤◌, ◌-◌, sym, refl, ap, ℕ, List, [], ◌∷◌, ◌++◌, append_assoc, Option, Some, None, option_map, option_and_then, length, take, drop, slice_index, arith}
use Rattle.std.proofs.Math.Seq.{take-length}
use Rattle.script_lines.specs.Statements.{hex_byte, hex_bytes}

joined : (bytes : List ℕ) (byte : ℕ) (o : Option (List ℕ)) → option_map (λ more. (bytes ++ byte ∷ []) ++ more) o ≡ option_map (λ more. bytes ++ more) (option_map (λ more. byte ∷ more) o)
joined bytes byte (Some more) = ap (λ l. Some l) (append_assoc bytes (byte ∷ []) more)
joined bytes byte None = refl

-- what is left behind a pair, behind the bytes so far and the pair's own
pub pair_step : (bytes new rest : List ℕ) (byte : ℕ) → 2 ≤ length rest → hex_byte (slice_index rest 0) (slice_index rest 1) ≡ Some byte → new ≡ bytes ++ byte ∷ []
    → option_map (λ more. new ++ more) (hex_bytes (take (length rest - 2) (drop 2 rest))) ≡ option_map (λ more. bytes ++ more) (hex_bytes rest)
pair_step bytes new [] byte h e n = absurd (omega (arith, h))
pair_step bytes new (high ∷ []) byte h e n = absurd (omega (arith, h))
pair_step bytes new (high ∷ low ∷ digits) byte h e n =
    let all : length (high ∷ low ∷ digits) - 2 ≡ length digits = omega arith in
    ap (λ l. option_map (λ more. l ++ more) (hex_bytes (take (length (high ∷ low ∷ digits) - 2) digits))) n
    ∙ (ap (λ k. option_map (λ more. (bytes ++ byte ∷ []) ++ more) (hex_bytes (take k digits))) all
    ∙ (ap (λ l. option_map (λ more. (bytes ++ byte ∷ []) ++ more) (hex_bytes l)) (take-length digits)
    ∙ (joined bytes byte (hex_bytes digits) ∙ sym (ap (λ o. option_map (λ more. bytes ++ more) (option_and_then (λ byte. option_map (λ more. byte ∷ more) (hex_bytes digits)) o)) e))))
