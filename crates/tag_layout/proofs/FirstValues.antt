-- The first words: those of each tag, one behind the other.
use Rattle.std.proofs.Common.{◌≡◌, ℕ, ◌<◌, ◌≤◌, ◌+◌, zero, suc, ℤ, pos, List, [], ◌∷◌, ◌++◌, length, map, take, get_or, slice_get, Option, Some, None, refl, sym, ap, ◌∙◌, take_all, append_assoc}
use Rattle.std.specs.Option.{option_map}
use Rattle.std.specs.List.{flat_map}
use Rattle.std.proofs.lemmas.List.{take_more, length-replicate, length-map}
use Rattle.function_blocks.specs.declared.kinds.Kind.{Kind}
use Rattle.function_blocks.specs.declared.kinds.Kind.TheVariants as kind
use Rattle.function_blocks.specs.declared.blocks.BlockKind.{BlockKind}
use Rattle.function_blocks.specs.declared.blocks.BlockKind.TheVariants as block
use Rattle.function_blocks.specs.declared.fields.BlockField.{BlockField}
use Rattle.function_blocks.specs.Fields.{Field, fields_of, first_values, field_count, shown}
use Rattle.st_tree.specs.Integers.{integer_value}
use Rattle.st_tree.specs.declared.declaration.Constant.{Constant}
use Rattle.st_tree.specs.declared.declaration.DeclaredType.{DeclaredType}
use Rattle.st_tree.specs.declared.declaration.DeclaredType.TheVariants as declared
use Rattle.st_tree.specs.declared.tag.Tag.{Tag}
use Rattle.tag_layout.specs.Layout.{type_of, type_of_kind, type_of_block, words_of, count_between, first_number, first_numbers, first_environment, first_words, laid_words, IsEnvironmentOf, Laid}

-- ---- how many words

pub kind_words : (k : Kind) → words_of (type_of_kind k) ≡ 1
kind_words kind.Bool = refl
kind_words kind.Int = refl
kind_words kind.Dint = refl

pub block_words : (b : BlockKind) → words_of (type_of_block b) ≡ field_count b
block_words block.RTrig = refl
block_words block.FTrig = refl
block_words block.Sr = refl
block_words block.Rs = refl
block_words block.Ctu = refl
block_words block.Ctd = refl
block_words block.Ton = refl
block_words block.Tof = refl
block_words block.Tp = refl

pub as_many : (d : DeclaredType) (c : Option Constant) → length (first_numbers d c) ≡ words_of (type_of d)
as_many (declared.Simple k) c = sym (kind_words k)
as_many (declared.Array low high element) c = length-replicate (count_between (integer_value low) (integer_value high)) (first_number c)
as_many (declared.Block b) c = length-map (fields_of b) (λ (f : Field). f.first) ∙ sym (block_words b)

-- ---- as words

abbrev pub numbers : Tag → List ℤ
numbers t = first_numbers t.declared t.constant

flat_mapped : (tags : List Tag) → flat_map numbers tags ≡ flat_map (λ (e : List ℕ × List ℤ). e.1) (first_environment tags)
flat_mapped [] = refl
flat_mapped (t ∷ tags) = ap (λ l. numbers t ++ l) (flat_mapped tags)

pub first_whole : (tags : List Tag) → flat_map numbers tags ≡ first_words tags
unfolding first_words laid_words
first_whole tags = flat_mapped tags

fits : (tags : List Tag) → IsEnvironmentOf tags (first_environment tags)
fits [] = refl
fits (t ∷ tags) = λ j. (t.name, as_many t.declared t.constant j) ∷ fits tags j

pub first_laid : (tags : List Tag) → Laid tags (first_environment tags) (first_words tags)
unfolding first_words
first_laid tags = (fits tags, refl)

-- ---- a block

abbrev pub first_or_0 : Option Field → ℤ
first_or_0 None = pos 0
first_or_0 (Some f) = f.first

first_at : (fs : List Field) (place : ℕ) → first_or_0 (slice_get fs place) ≡ get_or (map (λ (f : Field). f.first) fs) place (pos 0)
first_at [] place = refl
first_at (f ∷ fs) zero = refl
first_at (f ∷ fs) (suc place) = first_at fs place

-- the first value of the field at a place
pub first_of : (b : BlockKind) (place : ℕ) (r : Option BlockField) → option_map shown r ≡ slice_get (fields_of b) place → first_or_0 (option_map shown r) ≡ get_or (first_values b) place (pos 0)
first_of b place r h = ap first_or_0 h ∙ first_at (fields_of b) place

-- one field more
pub values_more : (vs old here now : List ℤ) (i : ℕ) (v : ℤ) → i < length vs → v ≡ get_or vs i (pos 0) → here ≡ old ++ take i vs → now ≡ here ++ v ∷ [] → now ≡ old ++ take (i + 1) vs
values_more vs old here now i v within is h n =
    n ∙ ((λ j. h j ++ is j ∷ []) ∙ (append_assoc old (take i vs) (get_or vs i (pos 0) ∷ []) ∙ ap (λ l. old ++ l) (sym (take_more vs i (pos 0) within))))

pub values_whole : (vs old here : List ℤ) (i : ℕ) → length vs ≤ i → here ≡ old ++ take i vs → here ≡ old ++ vs
values_whole vs old here i past h = h ∙ ap (λ l. old ++ l) (take_all i vs past)

pub value_count : (b : BlockKind) → length (first_values b) ≡ field_count b
value_count b = length-map (fields_of b) (λ (f : Field). f.first)
