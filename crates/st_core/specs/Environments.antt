-- The values of a program's tags, by name. Nothing here knows an address.
use Rattle.std.specs.Prelude.{ℕ, ℤ, pos, if◌then◌else◌, List, [], ◌∷◌, slice_index_or, slice_set}
use Rattle.std.specs.Str.{bytes_eq}
use Rattle.st_core.specs.Core.{Name}

-- Each tag with the numbers of its fields, in order of declaration. A plain tag has one field, an array one for each
-- element. A number may lie outside its type: a read clamps it.
abbrev pub Env : Type 0
Env = List (Name × List ℤ)

-- The numbers of a tag's fields; none where the name isn't declared.
unfoldable pub numbers_of : Name → Env → List ℤ
numbers_of n [] = []
numbers_of n (tag ∷ tags) = if bytes_eq n tag.0 then tag.1 else numbers_of n tags

-- Other numbers for a tag's fields; all other tags stay.
unfoldable pub with_numbers : Name → List ℤ → Env → Env
with_numbers n new [] = []
with_numbers n new (tag ∷ tags) = if bytes_eq n tag.0 then (tag.0, new) ∷ tags else tag ∷ with_numbers n new tags

-- The number of one field.
abbrev pub number_of : Env → Name → ℕ → ℤ
number_of env n place = slice_index_or (numbers_of n env) place (pos 0)

-- Another number for one field.
abbrev pub with_number : Env → Name → ℕ → ℤ → Env
with_number env n place v = with_numbers n (slice_set (numbers_of n env) place v) env
