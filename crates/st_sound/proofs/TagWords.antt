-- The words of declared tags are there.
use Rattle.std.proofs.Common.{◌≡◌, ℕ, ◌+◌, ◌<◌, ℤ, ◌-ℤ◌, unsigned_abs, int_lt, nat_lt, Bool, true, false, cond, if◌then◌else◌, List, [], ◌∷◌, ◌++◌, map, Option, Some, None, arith, refl, ap, ◌∙◌, subst, ltb-true}
use Rattle.std.specs.List.{position_or_len, flat_map}
use Rattle.std.specs.Option.{option_map, unwrap_or}
use Rattle.std.specs.Str.{bytes_eq}
use Rattle.std.proofs.lemmas.Option.{none-some, same_Some}
use Rattle.std.proofs.lemmas.Int.{ints}
use Rattle.function_blocks.specs.declared.kinds.Kind.{Kind}
use Rattle.function_blocks.specs.declared.kinds.Kind.TheVariants as kind
use Rattle.function_blocks.specs.declared.blocks.BlockKind.{BlockKind}
use Rattle.function_blocks.specs.declared.blocks.BlockKind.TheVariants as block
use Rattle.function_blocks.specs.Fields.{Field, fields_of, field_count}
use Rattle.scan_machine.specs.Rules.{AreBounds}
use Rattle.st_tree.specs.declared.declaration.Integer.{Integer}
use Rattle.st_tree.specs.declared.declaration.DeclaredType.{DeclaredType}
use Rattle.st_tree.specs.declared.declaration.DeclaredType.TheVariants as declared
use Rattle.st_tree.specs.declared.declaration.Constant.{Constant}
use Rattle.st_tree.specs.declared.declaration.Declaration.{Declaration}
use Rattle.st_tree.specs.declared.declaration.ExternalDeclaration.{ExternalDeclaration}
use Rattle.st_tree.specs.declared.declaration.PlacedName.{PlacedName}
use Rattle.st_tree.specs.declared.declaration.Block.{Block}
use Rattle.st_tree.specs.declared.declaration.Block.TheVariants as part
use Rattle.st_tree.specs.declared.tag.Tag.{Tag}
use Rattle.st_tree.specs.Listed.{names_of}
use Rattle.st_tree.specs.Integers.{integer_value}
use Rattle.st_tree.specs.Tags.{tag_named, tag_of, tags_of_declaration, tags_of_external, tags_of_block}
use Rattle.st_tree.specs.Typing.Literals.{range_faults}
use Rattle.st_tree.specs.Typing.Faults.{fault_if}
use Rattle.st_tree.specs.Typing.Declarations.{bound_faults, constant_faults, declaration_faults, block_faults}
use Rattle.tag_layout.specs.Layout.{type_of_kind, type_of_block, words_of, words_of_tag, count_between}
use Rattle.tag_layout.specs.Layout.{type_of as laid_type}
use Rattle.st_core.specs.Memory.{count_of}
use Rattle.st_core.specs.Fits.{HasArray}
use Rattle.st_meaning.specs.Types.{type_of, block_of, field_place}
use Rattle.st_sound.specs.Shapes.{shape_in}
use Rattle.st_sound.proofs.Ranges.{none_both, not_broken, in_range}

-- ---- bounds of arrays

-- the bounds of all arrays among these tags break no rule
unfoldable pub AreBounded : List Tag → Type 0
AreBounded [] = Unit {0}
AreBounded (t ∷ tags) = (bound_faults t.declared ≡ []) × AreBounded tags

bounded_both : (ts us : List Tag) → AreBounded ts → AreBounded us → AreBounded (ts ++ us)
unfolding AreBounded
bounded_both [] us h g = g
bounded_both (t ∷ ts) us h g = (h.0, bounded_both ts us h.1 g)

bounded_names : (external : Bool) (d : DeclaredType) (c : Option Constant) (ns : List PlacedName) → bound_faults d ≡ [] → AreBounded (map (tag_of external d c) ns)
unfolding AreBounded
bounded_names external d c [] h = tt
bounded_names external d c (n ∷ ns) h = (h, bounded_names external d c ns h)

bounded_plain : (ds : List Declaration) → flat_map declaration_faults ds ≡ [] → AreBounded (flat_map tags_of_declaration ds)
unfolding AreBounded
bounded_plain [] h = tt
bounded_plain (d ∷ ds) h =
    let parts = none_both (declaration_faults d) (flat_map declaration_faults ds) h in
    let own = none_both (bound_faults d.declared) (constant_faults d.declared d.constant) parts.0 in
    bounded_both (tags_of_declaration d) (flat_map tags_of_declaration ds) (bounded_names false d.declared d.constant (names_of d.names) own.0) (bounded_plain ds parts.1)

bounded_external : (ds : List ExternalDeclaration) → AreBounded (flat_map tags_of_external ds)
unfolding AreBounded
bounded_external [] = tt
bounded_external (d ∷ ds) =
    bounded_both (tags_of_external d) (flat_map tags_of_external ds) (bounded_names true (declared.Simple d.declared) None (names_of d.names) refl) (bounded_external ds)

bounded_block : (b : Block) → block_faults b ≡ [] → AreBounded (tags_of_block b)
bounded_block (part.Plain ds) h = bounded_plain ds h
bounded_block (part.External ds) h = bounded_external ds

-- those of blocks of declarations that break no rule
pub bounded_blocks : (bs : List Block) → flat_map block_faults bs ≡ [] → AreBounded (flat_map tags_of_block bs)
unfolding AreBounded
bounded_blocks [] h = tt
bounded_blocks (b ∷ bs) h =
    let parts = none_both (block_faults b) (flat_map block_faults bs) h in
    bounded_both (tags_of_block b) (flat_map tags_of_block bs) (bounded_block b parts.0) (bounded_blocks bs parts.1)

-- ---- the tag of a name

words_counted : (n : List ℕ) (tags : List Tag) (t : Tag) → tag_named tags n ≡ Some t → count_of n (shape_in tags) ≡ words_of_tag t
unfolding tag_named count_of
words_counted n [] t h = absurd (none-some t h)
words_counted n (u ∷ tags) t h = by (bytes_eq n u.name) (words_counted n tags t) h
  where
    by : (b : Bool) → (tag_named tags n ≡ Some t → count_of n (shape_in tags) ≡ words_of_tag t) → cond b (Some u) (tag_named tags n) ≡ Some t
        → (if b then words_of_tag u else count_of n (shape_in tags)) ≡ words_of_tag t
    by true more e = ap words_of_tag (same_Some u t e)
    by false more e = more e

bounds_kept : (n : List ℕ) (tags : List Tag) (t : Tag) → AreBounded tags → tag_named tags n ≡ Some t → bound_faults t.declared ≡ []
unfolding tag_named AreBounded
bounds_kept n [] t all h = absurd (none-some t h)
bounds_kept n (u ∷ tags) t all h = by (bytes_eq n u.name) (bounds_kept n tags t all.1) h
  where
    by : (b : Bool) → (tag_named tags n ≡ Some t → bound_faults t.declared ≡ []) → cond b (Some u) (tag_named tags n) ≡ Some t → bound_faults t.declared ≡ []
    by true more e = subst (λ (v : Tag). bound_faults v.declared ≡ []) (same_Some u t e) all.0
    by false more e = more e

-- a name that is declared with a type: its words are there, and the bounds break no rule
pub record IsDeclared (tags : List Tag) (n : List ℕ) (d : DeclaredType) : Type 0 where
  pub is : type_of tags n ≡ Some d
  pub words : count_of n (shape_in tags) ≡ words_of (laid_type d)
  pub bounds : bound_faults d ≡ []

pub declared_as : (tags : List Tag) → AreBounded tags → (n : List ℕ) (t : Tag) → tag_named tags n ≡ Some t → IsDeclared tags n t.declared
declared_as tags all n t h = record {
  is = ap (option_map (λ (u : Tag). u.declared)) h;
  words = words_counted n tags t h;
  bounds = bounds_kept n tags t all h;
}

-- ---- words by type

one_word : (k : Kind) → words_of (type_of_kind k) ≡ 1
one_word kind.Bool = refl
one_word kind.Int = refl
one_word kind.Dint = refl

-- a tag of one word has that
pub word_there : (tags : List Tag) (n : List ℕ) (k : Kind) → IsDeclared tags n (declared.Simple k) → 0 < count_of n (shape_in tags)
word_there tags n k d = omega (arith, d.words, one_word k)

all_between : (low high : ℤ) → int_lt high low ≡ false → count_between low high ≡ unsigned_abs (high -ℤ low) + 1
all_between low high h = ap (λ (b : Bool). if b then 0 else unsigned_abs (high -ℤ low) + 1) h

-- an array has all its words
pub array_there : (tags : List Tag) (n : List ℕ) (low high : Integer) (k : Kind) → IsDeclared tags n (declared.Array low high k)
    → HasArray (shape_in tags) n (integer_value low) (integer_value high)
array_there tags n low high k d =
    let parts = none_both (range_faults kind.Dint low ++ range_faults kind.Dint high) (fault_if (int_lt (integer_value high) (integer_value low)) high.place _) d.bounds in
    let ends = none_both (range_faults kind.Dint low) (range_faults kind.Dint high) parts.0 in
    let order : int_lt (integer_value high) (integer_value low) ≡ false = not_broken (int_lt (integer_value high) (integer_value low)) high.place _ parts.1 in
    let bounds : AreBounds (integer_value low) (integer_value high) = (grind (arith, ints, order), (in_range kind.Dint low ends.0).0, (in_range kind.Dint high ends.1).1) in
    record { bounds = bounds; there = omega (arith, d.words, all_between (integer_value low) (integer_value high) order) }

block_words : (b : BlockKind) → words_of (type_of_block b) ≡ field_count b
block_words block.RTrig = refl
block_words block.FTrig = refl
block_words block.Sr = refl
block_words block.Rs = refl
block_words block.Ctu = refl
block_words block.Ctd = refl
block_words block.Ton = refl
block_words block.Tof = refl
block_words block.Tp = refl

-- a block has a word for each of its fields
pub block_there : (tags : List Tag) (n : List ℕ) (b : BlockKind) → IsDeclared tags n (declared.Block b) → count_of n (shape_in tags) ≡ field_count b
block_there tags n b d = d.words ∙ block_words b

within_or_first : (place count : ℕ) → 0 < count → unwrap_or (cond (nat_lt place count) (Some place) None) 0 < count
within_or_first place count some = by (nat_lt place count) refl
  where
    by : (b : Bool) → nat_lt place count ≡ b → unwrap_or (cond b (Some place) None) 0 < count
    by true e = ltb-true place count e
    by false e = some

has_fields : (b : BlockKind) → 0 < field_count b
has_fields block.RTrig = omega arith
has_fields block.FTrig = omega arith
has_fields block.Sr = omega arith
has_fields block.Rs = omega arith
has_fields block.Ctu = omega arith
has_fields block.Ctd = omega arith
has_fields block.Ton = omega arith
has_fields block.Tof = omega arith
has_fields block.Tp = omega arith

-- the place of each field is that of a word
pub field_there : (tags : List Tag) (n : List ℕ) (b : BlockKind) (f : List ℕ) → IsDeclared tags n (declared.Block b) → field_place (block_of (type_of tags n)) f < count_of n (shape_in tags)
field_there tags n b f d =
    let place : field_place (block_of (type_of tags n)) f ≡ field_place b f = ap (λ o. field_place (block_of o) f) d.is in
    let below : field_place b f < field_count b = within_or_first (position_or_len (λ (x : Field). bytes_eq f x.name) (fields_of b)) (field_count b) (has_fields b) in
    omega (arith, place, below, block_there tags n b d)
