-- Decimal digits that are read from the left.
use Rattle.std.proofs.Common.{◌≡◌, ℕ, ◌≤◌, ◌<◌, ◌+◌, ◌*◌, ◌-◌, ◌^◌, Bool, true, false, List, [], ◌∷◌, length, drop, get_or, refl, sym, ap, ◌∙◌, subst, arith, add-one, ◌&&◌, nat_le}
use Rattle.std.proofs.Math.Seq.{drop-cons}
use Rattle.std.proofs.lemmas.List.{drop_all}
use Rattle.std.specs.Char.{is_ascii_digit, digit_value}
use Rattle.std.specs.List.{list_all}
use Rattle.std.specs.Str.{all_ascii_digits}
use Rattle.std.specs.Str.Parse.{digits_value, digits_value_after}
use Rattle.std.proofs.lemmas.Str.Parse.{IsNumeralModel, numerals_by_value, tells_all_ascii_digits, digits_value_short}
use Rattle.tri_base.specs.Numbers.{is_short_numeral}

-- more digits make no number less
pub digits_value_after-ge : (n : ℕ) (ds : List ℕ) → n ≤ digits_value_after 10 n ds
digits_value_after-ge n [] = omega arith
digits_value_after-ge n (d ∷ ds) = omega (arith, digits_value_after-ge (n * 10 + digit_value d) ds)

-- a digit's value is its byte less that of `0`
digit : (b : ℕ) → is_ascii_digit b ≡ true → (48 ≤ b) × (b ≤ 57) × (digit_value b ≡ b - 48)
digit b h = (grind arith, grind arith, grind arith)

first : (a b : Bool) → (a && b) ≡ true → (a ≡ true) × (b ≡ true)
first true b h = (refl, h)
first false b h = absurd (cc)

-- one digit more was read
pub record Reads (text : List ℕ) (i value : ℕ) : Type 0 where
  pub digits : all_ascii_digits (drop i text) ≡ true
  pub rest : digits_value_after 10 value (drop i text) ≡ digits_value 10 text

pub record Next (text : List ℕ) (i value byte : ℕ) : Type 0 where
  pub low : 48 ≤ byte
  pub high : byte ≤ 57
  pub bound : 10 * value + (byte - 48) ≤ digits_value 10 text
  pub read : Reads text (i + 1) (10 * value + (byte - 48))

pub reads_on : (text : List ℕ) (i value : ℕ) → i < length text → Reads text i value → Next text i value (get_or text i 0)
reads_on text i value within h =
    let b = get_or text i 0 in
    let cut : drop i text ≡ b ∷ drop (i + 1) text = drop-cons text i 0 within ∙ ap (λ k. b ∷ drop k text) (sym (add-one i)) in
    let parts = first (is_ascii_digit b) (all_ascii_digits (drop (i + 1) text)) (sym (ap all_ascii_digits cut) ∙ h.digits) in
    let d = digit b parts.0 in
    let now : value * 10 + digit_value b ≡ 10 * value + (b - 48) = omega (arith, d.2) in
    let rest : digits_value_after 10 (10 * value + (b - 48)) (drop (i + 1) text) ≡ digits_value 10 text =
    ap (λ n. digits_value_after 10 n (drop (i + 1) text)) (sym now) ∙ (sym (ap (λ l. digits_value_after 10 value l) cut) ∙ h.rest) in
    record {
      low = d.0;
      high = d.1;
      bound = subst (λ n. 10 * value + (b - 48) ≤ n) rest (digits_value_after-ge (10 * value + (b - 48)) (drop (i + 1) text));
      read = record { digits = parts.1; rest = rest };
    }

-- all digits were read
pub all_read : (text : List ℕ) (i value : ℕ) → length text ≤ i → Reads text i value → value ≡ digits_value 10 text
all_read text i value past h = sym (ap (digits_value_after 10 value) (drop_all i text past)) ∙ h.rest

same : (ds : List ℕ) → all_ascii_digits ds ≡ list_all is_ascii_digit ds
same [] = refl
same (d ∷ ds) = ap (λ t. is_ascii_digit d && t) (same ds)

own : IsNumeralModel (λ ds. all_ascii_digits ds ≡ true) (digits_value 10)
own = numerals_by_value (λ ds. all_ascii_digits ds ≡ true) tells_all_ascii_digits

-- 1 to 18 digits write a number below 10 ^ 18
pub short_value : (text : List ℕ) → is_short_numeral text ≡ true → (digits_value 10 text < 10 ^ 18) × (all_ascii_digits text ≡ true)
short_value text h =
    let outer = first (nat_le 1 (length text) && nat_le (length text) 18) (list_all is_ascii_digit text) h in
    let digits : all_ascii_digits text ≡ true = same text ∙ outer.1 in
    let inner = first (nat_le 1 (length text)) (nat_le (length text) 18) outer.0 in
    (digits_value_short own text 18 digits (grind (arith, inner.1)), digits)
