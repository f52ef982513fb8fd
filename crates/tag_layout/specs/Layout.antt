-- Where the words of a program's tags lie, and what they are at first. Every declared tag has words, one of
-- VAR_EXTERNAL too: one word for each of its fields, in order of declaration, from address 0 on. Own rule.
use Rattle.std.specs.Prelude.{◌≡◌, ◌≢◌, ℕ, ◌+◌, ◌-◌, ◌^◌, ◌<◌, ◌≤◌, min, nat_lt, ℤ, pos, ◌-ℤ◌, int_lt, unsigned_abs, if◌then◌else◌, List, [], ◌∷◌, length, map, take, replicate, slice_get, Option, Some, None, Result, Ok, Err}
use Rattle.std.specs.List.{flat_map, find, sum_by, enumerate_from, AllPairs}
use Rattle.std.specs.Str.{bytes_eq}
use Rattle.tri_base.specs.Limits.{word_limit}
use Rattle.function_blocks.specs.declared.kinds.Kind.{Kind}
use Rattle.function_blocks.specs.declared.kinds.Kind.TheVariants as kind
use Rattle.function_blocks.specs.declared.blocks.BlockKind.{BlockKind}
use Rattle.function_blocks.specs.declared.blocks.BlockKind.TheVariants as block
use Rattle.function_blocks.specs.Values.{number}
use Rattle.function_blocks.specs.Fields.{field_count, first_values}
use Rattle.st_tree.specs.Integers.{integer_value}
use Rattle.st_tree.specs.declared.declaration.Constant.{Constant}
use Rattle.st_tree.specs.declared.declaration.Constant.TheVariants as constant
use Rattle.st_tree.specs.declared.declaration.DeclaredType.{DeclaredType}
use Rattle.st_tree.specs.declared.declaration.DeclaredType.TheVariants as declared
use Rattle.st_tree.specs.declared.tag.Tag.{Tag}
use Rattle.st_tree.specs.declared.tag_type.TagType.{TagType}
use Rattle.st_tree.specs.declared.tag_type.TagType.TheVariants as type
use Rattle.tag_layout.specs.declared.placed.PlacedTag.{PlacedTag}
use Rattle.tag_layout.specs.declared.fault.LayFault.{LayFault}
use Rattle.tag_layout.specs.declared.fault.LayFault.TheVariants.{TooManyWords, NoMemory}

-- ---- types

-- The type of a tag of one word.
abbrev pub type_of_kind : Kind → TagType
type_of_kind kind.Bool = type.Bool
type_of_kind kind.Int = type.Int
type_of_kind kind.Dint = type.Dint

-- The type of a function block's tag.
abbrev pub type_of_block : BlockKind → TagType
type_of_block block.RTrig = type.RTrig
type_of_block block.FTrig = type.FTrig
type_of_block block.Sr = type.Sr
type_of_block block.Rs = type.Rs
type_of_block block.Ctu = type.Ctu
type_of_block block.Ctd = type.Ctd
type_of_block block.Ton = type.Ton
type_of_block block.Tof = type.Tof
type_of_block block.Tp = type.Tp

-- The type that a written type is.
abbrev pub type_of : DeclaredType → TagType
type_of (declared.Simple k) = type_of_kind k
type_of (declared.Array low high element) = type.Array element (integer_value low) (integer_value high)
type_of (declared.Block b) = type_of_block b

-- ---- how many words

-- How many whole numbers lie from one to another, both counted.
abbrev pub count_between : (low high : ℤ) → ℕ
count_between low high = if int_lt high low then 0 else unsigned_abs (high -ℤ low) + 1

-- How many words a tag of a type has: a BOOL, INT or DINT one, an array one for each element from the lower bound on, a
-- function block one for each field.
abbrev pub words_of : TagType → ℕ
words_of type.Bool = 1
words_of type.Int = 1
words_of type.Dint = 1
words_of (type.Array element low high) = count_between low high
words_of type.RTrig = field_count block.RTrig
words_of type.FTrig = field_count block.FTrig
words_of type.Sr = field_count block.Sr
words_of type.Rs = field_count block.Rs
words_of type.Ctu = field_count block.Ctu
words_of type.Ctd = field_count block.Ctd
words_of type.Ton = field_count block.Ton
words_of type.Tof = field_count block.Tof
words_of type.Tp = field_count block.Tp

-- How many words a declared tag has.
abbrev pub words_of_tag : Tag → ℕ
words_of_tag t = words_of (type_of t.declared)

-- How many words all these tags have.
abbrev pub total_words : List Tag → ℕ
total_words tags = sum_by words_of_tag tags

-- ---- addresses

-- The address of the first word of the tag at a place in the list: as many words lie before it as the tags have that
-- are declared before it.
abbrev pub address_at : List Tag → ℕ → ℕ
address_at tags place = total_words (take place tags)

-- A tag with an address.
abbrev pub placed_tag : Tag → ℕ → PlacedTag
placed_tag t address = record { name = t.name; of = type_of t.declared; address = address }

-- Every declared tag with its type and its address, in order of declaration.
unfoldable pub placed_tags : List Tag → List PlacedTag
placed_tags tags = map (λ (t : ℕ × Tag). placed_tag t.1 (address_at tags t.0)) (enumerate_from 0 tags)

-- The tag that a name means: the first that is declared so.
unfoldable pub placed_named : List Tag → List ℕ → Option PlacedTag
placed_named tags name = find (λ t. bytes_eq name t.name) (placed_tags tags)

-- The address of a field of a tag: the tag's own and as many more as the field's number; None where there is no tag, or
-- the tag has no such field. The elements of an array are numbered from 0, from the lower bound on.
abbrev pub field_address : Option PlacedTag → ℕ → Option ℕ
field_address None field = None
field_address (Some t) field = if nat_lt field (words_of t.of) then Some (t.address + field) else None

-- The address of the field of a tag, by the tag's name.
abbrev pub address_of : List Tag → List ℕ → ℕ → Option ℕ
address_of tags name field = field_address (placed_named tags name) field

-- ---- words that hold an environment

-- Each tag's name with the numbers of its fields. A number may lie outside its type.
abbrev pub Environment : Type 0
Environment = List (List ℕ × List ℤ)

-- A tag's name with the number of its words.
abbrev pub name_and_words : Tag → List ℕ × ℕ
name_and_words t = (t.name, words_of_tag t)

-- A tag's name with how many numbers it has.
abbrev pub name_and_count : List ℕ × List ℤ → List ℕ × ℕ
name_and_count e = (e.0, length e.1)

-- The environment has these tags, in order of declaration, each with a number for each of its words.
abbrev pub IsEnvironmentOf : List Tag → Environment → Type 0
IsEnvironmentOf tags env = map name_and_count env ≡ map name_and_words tags

-- The words that hold an environment: the numbers of each tag behind those of the tags before it.
unfoldable pub laid_words : Environment → List ℤ
laid_words env = flat_map (λ e. e.1) env

-- The words hold an environment of these tags.
abbrev pub Laid : List Tag → Environment → List ℤ → Type 0
Laid tags env words = IsEnvironmentOf tags env × (words ≡ laid_words env)

-- The number of a field of a tag that is found.
abbrev pub number_in : Option (List ℕ × List ℤ) → ℕ → Option ℤ
number_in None field = None
number_in (Some e) field = slice_get e.1 field

-- The number of a tag's field, by the tag's name; None where there is no tag, or the tag has no such field.
abbrev pub number_of : Environment → List ℕ → ℕ → Option ℤ
number_of env name field = number_in (find (λ e. bytes_eq name e.0) env) field

-- The word at an address, if there is one.
abbrev pub word_at : List ℤ → Option ℕ → Option ℤ
word_at words None = None
word_at words (Some address) = slice_get words address

-- ---- first values

-- The number of a written first value; 0 where none is written.
abbrev pub first_number : Option Constant → ℤ
first_number None = pos 0
first_number (Some (constant.Integer i)) = integer_value i
first_number (Some (constant.Truth value place)) = number value

-- The first numbers of a tag's words: each element of an array has the first value that is written, and a function
-- block has its own.
abbrev pub first_numbers : DeclaredType → Option Constant → List ℤ
first_numbers (declared.Simple k) constant = first_number constant ∷ []
first_numbers (declared.Array low high element) constant =
    replicate (count_between (integer_value low) (integer_value high)) (first_number constant)
first_numbers (declared.Block b) constant = first_values b

-- A tag's name with its first numbers.
abbrev pub name_and_first : Tag → List ℕ × List ℤ
name_and_first t = (t.name, first_numbers t.declared t.constant)

-- The first values of all tags.
abbrev pub first_environment : List Tag → Environment
first_environment tags = map name_and_first tags

-- The words that hold them.
unfoldable pub first_words : List Tag → List ℤ
first_words tags = laid_words (first_environment tags)

-- ---- what the layout of a program is

-- No two tags have one name.
abbrev pub AreApart : List Tag → Type 0
AreApart tags = AllPairs (λ (s t : Tag). s.name ≢ t.name) tags

-- The greatest number of words that is told, which is the greatest of 64 bits.
abbrev pub greatest_told : ℕ
greatest_told = 2 ^ 64 - 1

-- A layout stands for the tags that a program declares. It is there exactly where they have 4,096 words or fewer, and
-- else the number of their words is told. That memory fails says nothing of the program.
abbrev pub Lays : List Tag → Result (List Tag) LayFault → Type 0
Lays tags (Ok layout) = (layout ≡ tags) × (total_words tags ≤ word_limit)
Lays tags (Err (TooManyWords words)) =
    (word_limit < total_words tags) × (words ≡ min (total_words tags) greatest_told)
Lays tags (Err NoMemory) = Unit {0}
