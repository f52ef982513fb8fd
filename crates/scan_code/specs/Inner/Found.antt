-- Nobody has to believe what stands here: it serves private functions alone.
-- What names stand for.
use Rattle.std.specs.Prelude.{◌≡◌, ℕ, ℤ, pos, if◌then◌else◌, List, Option, None, Some}
use Rattle.std.specs.Str.{bytes_eq}
use Rattle.function_blocks.specs.declared.kinds.Kind.{Kind}
use Rattle.function_blocks.specs.declared.kinds.Kind.TheVariants as kind
use Rattle.function_blocks.specs.declared.blocks.BlockKind.{BlockKind}
use Rattle.function_blocks.specs.declared.blocks.BlockKind.TheVariants as block
use Rattle.function_blocks.specs.Fields.{Field}
use Rattle.scan_machine.specs.declared.instructions.Instr.{Instr}
use Rattle.scan_machine.specs.declared.instructions.Instr.TheVariants as i
use Rattle.st_tree.specs.declared.tag.Tag.{Tag}
use Rattle.st_tree.specs.declared.tag_type.TagType.{TagType}
use Rattle.st_tree.specs.declared.tag_type.TagType.TheVariants as type
use Rattle.st_core.specs.Core.{Name}
use Rattle.st_core.specs.Memory.{address_of}
use Rattle.st_meaning.specs.Types.{type_of, word_type, element_type, low_bound, high_bound, block_of}
use Rattle.st_sound.specs.Shapes.{shape_in}
use Rattle.scan_code.specs.declared.found.Found.{Found}

-- the type of a tag of one word
abbrev pub word_type_of : TagType → Kind
word_type_of type.Bool = kind.Bool
word_type_of type.Int = kind.Int
word_type_of _ = kind.Dint

-- the type of an array's elements
abbrev pub element_type_of : TagType → Kind
element_type_of (type.Array element low high) = element
element_type_of _ = kind.Dint

-- the lower bound of an array
abbrev pub low_of : TagType → ℤ
low_of (type.Array element low high) = low
low_of _ = pos 0

-- the upper bound of an array
abbrev pub high_of : TagType → ℤ
high_of (type.Array element low high) = high
high_of _ = pos 0

-- the block that a tag is an instance of
abbrev pub block_of_tag : TagType → BlockKind
block_of_tag type.FTrig = block.FTrig
block_of_tag type.Sr = block.Sr
block_of_tag type.Rs = block.Rs
block_of_tag type.Ctu = block.Ctu
block_of_tag type.Ctd = block.Ctd
block_of_tag type.Ton = block.Ton
block_of_tag type.Tof = block.Tof
block_of_tag type.Tp = block.Tp
block_of_tag _ = block.RTrig

-- what was found is what the name stands for
pub record IsFound (tags : List Tag) (n : Name) (found : Found) : Type 0 where
  pub word : word_type_of found.of ≡ word_type (type_of tags n)
  pub element : element_type_of found.of ≡ element_type (type_of tags n)
  pub low : low_of found.of ≡ low_bound (type_of tags n)
  pub high : high_of found.of ≡ high_bound (type_of tags n)
  pub block : block_of_tag found.of ≡ block_of (type_of tags n)
  pub address : found.address ≡ address_of n (shape_in tags)

-- pushes an element of an array
abbrev pub load_at : Found → Instr
load_at tag = i.LoadAt tag.address (element_type_of tag.of) (low_of tag.of) (high_of tag.of)

-- pops into an element of an array
abbrev pub store_at : Found → Instr
store_at tag = i.StoreAt tag.address (element_type_of tag.of) (low_of tag.of) (high_of tag.of)

-- the type of a field, where there is one and it has this name
abbrev pub typed_field : Option Field → List ℕ → Option Kind
typed_field None name = None
typed_field (Some f) name = if bytes_eq name f.name then Some f.kind else None
