-- How numbers are written (IEC 61131-3:2013, 6.3.2).
-- Own rule: no sign and no decimal point, at most 2,147,483,648, and BadNumber goes before NumberTooLarge.
use Rattle.std.specs.Prelude.{ℕ, ◌+◌, ◌*◌, ◌==◌, nat_le, Bool, true, false, ◌&&◌, if◌then◌else◌}
use Rattle.std.specs.Prelude.{List, [], ◌∷◌, drop, fold, codes, Result, Ok, Err}
use Rattle.std.specs.Char.{digit_value, is_digit}
use Rattle.tri_base.specs.Bytes.{underscore}
use Rattle.tri_base.specs.declared.faults.LexCause.{LexCause}
use Rattle.tri_base.specs.declared.faults.LexCause.TheVariants.{BadNumber, NumberTooLarge}
use Rattle.st_tree.specs.Words.{begins_with}

-- the greatest number, one more than the greatest DINT, so that its negation can be written
abbrev pub greatest_number : ℕ
greatest_number = 2147483648

-- the base in front of the first `#`, which is 2, 8 or 16; 10 where none of them stands there
abbrev pub base : List ℕ → ℕ
base text =
    if begins_with text (codes "16#") then 16
    else (if begins_with text (codes "2#") then 2
    else (if begins_with text (codes "8#") then 8 else 10))

-- what stands behind `16#`, `2#` and `8#`; the whole text where it is decimal
abbrev pub digits : List ℕ → List ℕ
digits text =
    if begins_with text (codes "16#") then drop 3 text
    else (if begins_with text (codes "2#") then drop 2 text
    else (if begins_with text (codes "8#") then drop 2 text else text))

-- These are digits of the base, in either case, with single underscores between. The flag says whether a digit stands
-- before them.
abbrev pub are_digits : ℕ → Bool → List ℕ → Bool
are_digits base behind_digit [] = behind_digit
are_digits base behind_digit (b ∷ bs) =
    if b == underscore then behind_digit && are_digits base false bs else is_digit b base && are_digits base true bs

-- the number with one digit more; an underscore adds nothing
abbrev pub with_digit : ℕ → ℕ → ℕ → ℕ
with_digit base n b = if b == underscore then n else n * base + digit_value b

-- the number that the digits have in the base
abbrev pub value : ℕ → List ℕ → ℕ
value base = fold (with_digit base) 0

-- a number that is written right, or too large
abbrev pub in_range : ℕ → Result ℕ LexCause
in_range n = if nat_le n greatest_number then Ok n else Err NumberTooLarge

-- the number that the text spells, or what is wrong with it
unfoldable pub numeral : List ℕ → Result ℕ LexCause
numeral text =
    if are_digits (base text) false (digits text) then in_range (value (base text) (digits text)) else Err BadNumber
