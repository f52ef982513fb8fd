-- What the name of a tag stands for. Only a well-typed program has a meaning: where a name has no such type, the
-- definitions give DINT, R_TRIG or 0, which no well-typed program asks for.
use Rattle.std.specs.Prelude.{ℕ, ℤ, pos, List, map, Option, None, Some, unwrap_or}
use Rattle.std.specs.List.{find, position}
use Rattle.std.specs.Option.{option_map}
use Rattle.std.specs.Str.{bytes_eq}
use Rattle.function_blocks.specs.declared.kinds.Kind.{Kind}
use Rattle.function_blocks.specs.declared.kinds.Kind.TheVariants as kind
use Rattle.function_blocks.specs.declared.blocks.BlockKind.{BlockKind}
use Rattle.function_blocks.specs.declared.blocks.BlockKind.TheVariants as block
use Rattle.function_blocks.specs.Fields.{fields_of, kind_of}
use Rattle.st_tree.specs.declared.declaration.DeclaredType.{DeclaredType}
use Rattle.st_tree.specs.declared.declaration.DeclaredType.TheVariants as declared
use Rattle.st_tree.specs.declared.tag.Tag.{Tag}
use Rattle.st_tree.specs.Integers.{integer_value}
use Rattle.st_tree.specs.Tags.{tag_named}

-- The type that a name is declared with; None where it isn't declared.
abbrev pub type_of : List Tag → List ℕ → Option DeclaredType
type_of tags n = option_map (λ t. t.declared) (tag_named tags n)

-- The type of a tag of one word.
abbrev pub word_type : Option DeclaredType → Kind
word_type (Some (declared.Simple k)) = k
word_type _ = kind.Dint

-- The type of an array's elements.
abbrev pub element_type : Option DeclaredType → Kind
element_type (Some (declared.Array low high k)) = k
element_type _ = kind.Dint

-- The lower bound of an array.
abbrev pub low_bound : Option DeclaredType → ℤ
low_bound (Some (declared.Array low high k)) = integer_value low
low_bound _ = pos 0

-- The upper bound of an array.
abbrev pub high_bound : Option DeclaredType → ℤ
high_bound (Some (declared.Array low high k)) = integer_value high
high_bound _ = pos 0

-- The function block that a tag is an instance of (IEC 61131-3:2013, 6.6.3).
abbrev pub block_of : Option DeclaredType → BlockKind
block_of (Some (declared.Block b)) = b
block_of _ = block.RTrig

-- The place of a block's field among its fields.
abbrev pub field_place : BlockKind → List ℕ → ℕ
field_place b name = unwrap_or (position (λ f. bytes_eq name f.name) (fields_of b)) 0

-- The type of a block's field.
abbrev pub field_type : BlockKind → List ℕ → Kind
field_type b name = unwrap_or (kind_of (find (λ f. bytes_eq name f.name) (fields_of b))) kind.Dint
