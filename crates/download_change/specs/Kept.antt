-- What a download keeps: each tag that the new program declares with the same type, under its heir's name. Own rule.
use Rattle.std.specs.Prelude.{◌≡◌, ℕ, ℤ, Bool, true, false, not, ◌&&◌, if◌then◌else◌, List, [], map, take, drop, Option, Some, None}
use Rattle.std.specs.Ordering.{int_eq}
use Rattle.std.specs.List.{find, flat_map}
use Rattle.std.specs.Option.{option_map, option_and_then}
use Rattle.std.specs.Str.{bytes_eq}
use Rattle.st_tree.specs.declared.tag.Tag.{Tag}
use Rattle.st_tree.specs.declared.tag_type.TagType.{TagType}
use Rattle.st_tree.specs.declared.tag_type.TagType.TheVariants as type
use Rattle.st_tree.specs.Typing.Operands.{same_kind}
use Rattle.tag_layout.specs.declared.placed.PlacedTag.{PlacedTag}
use Rattle.tag_layout.specs.Layout.{words_of, placed_tags, placed_named, Environment}
use Rattle.download_change.specs.Renames.{Rename, heir_of}

-- ---- types

-- Two types are one. Two array types are where their elements have one type and both bounds are equal.
abbrev pub same_type : TagType → TagType → Bool
same_type type.Bool type.Bool = true
same_type type.Int type.Int = true
same_type type.Dint type.Dint = true
same_type (type.Array element low high) (type.Array e l h) = same_kind element e && (int_eq low l && int_eq high h)
same_type type.RTrig type.RTrig = true
same_type type.FTrig type.FTrig = true
same_type type.Sr type.Sr = true
same_type type.Rs type.Rs = true
same_type type.Ctu type.Ctu = true
same_type type.Ctd type.Ctd = true
same_type type.Ton type.Ton = true
same_type type.Tof type.Tof = true
same_type type.Tp type.Tp = true
same_type _ _ = false

-- A tag of the new program, if there is one, has another type.
abbrev pub differs : TagType → Option PlacedTag → Bool
differs of None = false
differs of (Some t) = not (same_type of t.of)

-- The tag of the new program that an old tag's heir is.
abbrev pub heir_in : (new : List Tag) → List Rename → PlacedTag → Option PlacedTag
heir_in new renames t = option_and_then (placed_named new) (heir_of renames t.name)

-- The new program declares the heir of a tag with another type.
abbrev pub is_changed : (new : List Tag) → List Rename → PlacedTag → Bool
is_changed new renames t = differs t.of (heir_in new renames t)

-- The old name of the first tag of the old program whose heir the new one declares with another type.
abbrev pub changed_type_of : (old new : List Tag) → List Rename → Option (List ℕ)
changed_type_of old new renames = option_map (λ t. t.name) (find (is_changed new renames) (placed_tags old))

-- ---- where a new tag's numbers come from

-- An heir, if there is one, has this name.
abbrev pub is_called : List ℕ → Option (List ℕ) → Bool
is_called name None = false
is_called name (Some heir) = bytes_eq name heir

-- The first tag of the old program whose heir has this name.
abbrev pub origin_of : (old : List Tag) → List Rename → List ℕ → Option PlacedTag
origin_of old renames name = find (λ t. is_called name (heir_of renames t.name)) (placed_tags old)

-- An old tag, if it has this type.
abbrev pub of_type : TagType → Option PlacedTag → Option PlacedTag
of_type of None = None
of_type of (Some t) = if same_type t.of of then Some t else None

-- The tag of the old program that is kept as this tag of the new one: the one whose heir it is, where that has its
-- type.
abbrev pub kept_for : (old : List Tag) → List Rename → PlacedTag → Option PlacedTag
kept_for old renames t = of_type t.of (origin_of old renames t.name)

-- ---- environments

-- The numbers of a tag that is found.
abbrev pub numbers_in : Option (List ℕ × List ℤ) → List ℤ
numbers_in None = []
numbers_in (Some e) = e.1

-- The numbers of a tag, by its name.
abbrev pub numbers_named : Environment → List ℕ → List ℤ
numbers_named env name = numbers_in (find (λ e. bytes_eq name e.0) env)

-- The numbers that a new tag goes on with: those of the old tag that is kept as it, or else its first ones.
abbrev pub carried_numbers : (env first : Environment) → (kept : Option PlacedTag) → PlacedTag → List ℤ
carried_numbers env first None t = numbers_named first t.name
carried_numbers env first (Some o) t = numbers_named env o.name

-- What the new program goes on with, from the old one's environment and its own first values.
unfoldable pub carried_of : (old new : List Tag) → List Rename → (env first : Environment) → Environment
carried_of old new renames env first =
    map (λ t. (t.name, carried_numbers env first (kept_for old renames t) t)) (placed_tags new)

-- ---- words

-- The words of a tag, from its address on.
abbrev pub words_at : List ℤ → PlacedTag → List ℤ
words_at words t = take (words_of t.of) (drop t.address words)

-- The words that a new tag goes on with.
abbrev pub carried_part : (words first : List ℤ) → (kept : Option PlacedTag) → PlacedTag → List ℤ
carried_part words first None t = words_at first t
carried_part words first (Some o) t = words_at words o

-- The words that hold what the new program goes on with, from the old one's words and its own first ones.
unfoldable pub carried_words : (old new : List Tag) → List Rename → (first words : List ℤ) → List ℤ
carried_words old new renames first words =
    flat_map (λ t. carried_part words first (kept_for old renames t) t) (placed_tags new)

-- ---- kept tags

-- An old tag is kept under a name: that of its heir, which the new program declares with its type.
abbrev pub IsKeptAs : (new : List Tag) → List Rename → PlacedTag → List ℕ → Type 0
IsKeptAs new renames t name =
    (heir_of renames t.name ≡ Some name) × (option_map (λ p. p.of) (placed_named new name) ≡ Some t.of)
