-- Nobody has to believe what stands here: it serves private functions alone.
-- How the words are set and read, by addresses that were looked up once.
use Rattle.std.specs.Prelude.{◌≡◌, ℕ, ◌<◌, ℤ, pos, Bool, true, ◌&&◌, if◌then◌else◌, List, map, filter, fold, zip, Option, Some, None, slice_index_or, slice_set}
use Rattle.tri_base.specs.declared.point.Point.{Point}
use Rattle.st_tree.specs.declared.tag.Tag.{Tag}
use Rattle.st_tree.specs.Typing.Points.{is_input_point}
use Rattle.st_core.specs.Memory.{count_of}
use Rattle.st_meaning.specs.Programs.{is_point_tag}
use Rattle.st_sound.specs.Shapes.{shape_in}
use Rattle.tri_base.specs.Noted.{noted}
use Rattle.tag_wiring.specs.PointWords.{tag_address, input_set}

-- each tag of a point has a word
abbrev pub HaveWords : List Tag → Type 0
HaveWords tags = (n : List ℕ) → is_point_tag tags n ≡ true → 0 < count_of n (shape_in tags)

-- the address of the tag of a point, where it is declared
abbrev pub address_for : List Tag → List ℕ → Option ℕ
address_for tags n = if is_point_tag tags n then Some (tag_address tags n) else None

-- the name is that of a declared input tag
abbrev pub is_input_name : List Point → List Tag → List ℕ → Bool
is_input_name points tags n = is_point_tag tags n && is_input_point points n

-- the addresses of the declared input tags among these names
abbrev pub told_among : List Point → List Tag → List (List ℕ) → List ℕ
told_among points tags names = map (tag_address tags) (filter (is_input_name points tags) names)

-- one word set, where there is an address
abbrev pub word_set : List ℤ → Option ℕ → ℤ → List ℤ
word_set words None v = words
word_set words (Some address) v = slice_set words address v

-- each word with an address set
abbrev pub all_set : List (Option ℕ) → (values words : List ℤ) → List ℤ
all_set addresses values words =
    fold (λ ws (s : Option ℕ × ℤ). word_set ws s.0 s.1) words (zip addresses values)

-- an address and the number that stands there
abbrev pub told_at : List ℤ → ℕ → ℕ × ℤ
told_at words address = (address, slice_index_or words address (pos 0))

-- the number at an address noted
abbrev pub noted_at : List ℤ → List (ℕ × ℤ) → ℕ → List (ℕ × ℤ)
noted_at words pairs address = noted address (slice_index_or words address (pos 0)) pairs

-- the words of these points' tags set to the values
unfoldable pub input_words : List Tag → List Point → (values words : List ℤ) → List ℤ
input_words tags points values words = fold (input_set tags) words (zip points values)
