-- Numbers as a script and the command words spell them. Own rule.
use Rattle.std.specs.Prelude.{ℕ, ℤ, pos, neg_ℤ, Bool, List, [], ◌∷◌, length, Option, Some, None}
use Rattle.std.specs.Prelude.{nat_le, ◌==◌, ◌&&◌, if◌then◌else◌, option_map}
use Rattle.std.specs.List.{list_all}
use Rattle.std.specs.Char.{is_ascii_digit}
use Rattle.std.specs.Str.Parse.{digits_value}
use Rattle.tri_base.specs.Bytes.{minus_sign}

-- How many digits a number has at most. So it always fits in 64 bits.
abbrev pub digit_limit : ℕ
digit_limit = 18

-- 1 to 18 decimal digits.
abbrev pub is_short_numeral : List ℕ → Bool
is_short_numeral text = nat_le 1 (length text) && nat_le (length text) digit_limit && list_all is_ascii_digit text

-- The value of 1 to 18 decimal digits; None for another text.
abbrev pub size_of : List ℕ → Option ℕ
size_of text = if is_short_numeral text then Some (digits_value 10 text) else None

-- The number that a text spells: an optional minus sign, then 1 to 18 decimal digits.
abbrev pub number_of : List ℕ → Option ℤ
number_of [] = None
number_of (b ∷ bs) = if b == minus_sign then option_map (λ n. neg_ℤ (pos n)) (size_of bs) else option_map (λ n. pos n) (size_of (b ∷ bs))
