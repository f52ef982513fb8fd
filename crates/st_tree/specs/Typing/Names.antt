-- The values of names in expressions: tags, fields of blocks, and elements of arrays (IEC 61131-3:2013, 6.5 and 6.6.3).
use Rattle.std.specs.Prelude.{[], Option, Some, None}
use Rattle.tri_base.specs.declared.faults.TypeCause.TheVariants as cause
use Rattle.function_blocks.specs.declared.kinds.Kind.{Kind}
use Rattle.function_blocks.specs.Fields.{output_named}
use Rattle.st_tree.specs.declared.declaration.PlacedName.{PlacedName}
use Rattle.st_tree.specs.declared.declaration.DeclaredType.{DeclaredType}
use Rattle.st_tree.specs.declared.declaration.DeclaredType.TheVariants as declared
use Rattle.st_tree.specs.declared.tag.Tag.{Tag}
use Rattle.st_tree.specs.Typing.Faults.{fault}
use Rattle.st_tree.specs.Typing.Operands.{Outcome, Faulty, Typed, Typing, wrong_type, faults_of, once_sound, as_integer}

-- a name that isn't declared
abbrev pub unknown_name : PlacedName → Outcome
unknown_name n = Faulty (fault n.place cause.UnknownName) []

-- a field that the block hasn't, or hasn't as an output
abbrev pub bad_field : PlacedName → Outcome
bad_field n = Faulty (fault n.place cause.BadField) []

-- by the type that the tag is declared with
abbrev pub value_of_tag : PlacedName → DeclaredType → Outcome
value_of_tag n (declared.Simple k) = Typed k
value_of_tag n (declared.Array low high k) = wrong_type n.place
value_of_tag n (declared.Block b) = wrong_type n.place

-- a tag's value: neither a block nor a whole array has one
abbrev pub tag_value : PlacedName → Option Tag → Outcome
tag_value n None = unknown_name n
tag_value n (Some tag) = value_of_tag n tag.declared

-- by the type of the output, if there is one
abbrev pub output_value : PlacedName → Option Kind → Outcome
output_value n None = bad_field n
output_value n (Some k) = Typed k

-- by the type that the tag is declared with
abbrev pub value_of_field : PlacedName → PlacedName → DeclaredType → Outcome
value_of_field n field (declared.Simple k) = wrong_type n.place
value_of_field n field (declared.Array low high k) = wrong_type n.place
value_of_field n field (declared.Block b) = output_value field (output_named b field.name)

-- a field's value: only the outputs of a block are read
abbrev pub field_value : PlacedName → PlacedName → Option Tag → Outcome
field_value n field None = unknown_name n
field_value n field (Some tag) = value_of_field n field tag.declared

-- by the type that the tag is declared with
abbrev pub value_of_element : PlacedName → Typing → DeclaredType → Outcome
value_of_element n index (declared.Simple k) = wrong_type n.place
value_of_element n index (declared.Array low high k) = once_sound (faults_of (as_integer index)) (Typed k)
value_of_element n index (declared.Block b) = wrong_type n.place

-- an element's value: only an array has an index, which is an integer
abbrev pub element_value : PlacedName → Typing → Option Tag → Outcome
element_value n index None = unknown_name n
element_value n index (Some tag) = value_of_element n index tag.declared
