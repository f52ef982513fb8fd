-- Names: 1 to 32 letters, digits and underscores, the first of which is no digit. Letters' case doesn't matter.
-- Own rule: IEC 61131-3:2013, 6.1.2 leaves the length open and forbids two underscores in a row.
use Rattle.std.specs.Prelude.{ℕ, Bool, false, not, List, [], ◌∷◌, length, map, Option, Some, None}
use Rattle.std.specs.Prelude.{nat_le, ◌==◌, ◌&&◌, ◌||◌, if◌then◌else◌}
use Rattle.std.specs.List.{list_all}
use Rattle.std.specs.Char.{is_ascii_digit, is_ascii_alphanumeric, to_ascii_uppercase}
use Rattle.tri_base.specs.Bytes.{underscore}

-- How many bytes a name has at most.
abbrev pub name_limit : ℕ
name_limit = 32

-- A letter, a digit or an underscore.
abbrev pub is_word_byte : ℕ → Bool
is_word_byte b = is_ascii_alphanumeric b || b == underscore

-- The first byte is a digit.
abbrev pub starts_with_digit : List ℕ → Bool
starts_with_digit [] = false
starts_with_digit (b ∷ bs) = is_ascii_digit b

-- The text is a name, in letters of either case.
abbrev pub is_name : List ℕ → Bool
is_name text =
    nat_le 1 (length text) && nat_le (length text) name_limit && list_all is_word_byte text && not (starts_with_digit text)

-- The name that a text spells, in capitals; None where it spells none.
abbrev pub name_of : List ℕ → Option (List ℕ)
name_of text = if is_name text then Some (map to_ascii_uppercase text) else None
