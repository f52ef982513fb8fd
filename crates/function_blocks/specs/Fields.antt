-- The fields of the standard function blocks (IEC 61131-3:2013, 6.6.3.5), in the order of their words: inputs, outputs,
-- and those that are the block's own.
use Rattle.std.specs.Prelude.{ℕ, ◌+◌, ℤ, pos, Bool, true, false, ◌&&◌, List, [], ◌∷◌, Option, Some, None, length, map, slice_index_or, codes}
use Rattle.std.specs.List.{find}
use Rattle.std.specs.Option.{option_map}
use Rattle.std.specs.Str.{bytes_eq}
use Rattle.function_blocks.specs.declared.kinds.Kind.{Kind}
use Rattle.function_blocks.specs.declared.kinds.Kind.TheVariants as kind
use Rattle.function_blocks.specs.declared.blocks.BlockKind.{BlockKind}
use Rattle.function_blocks.specs.declared.blocks.BlockKind.TheVariants as block
use Rattle.function_blocks.specs.declared.fields.BlockField.{BlockField}
use Rattle.function_blocks.specs.declared.fields.Role.{Role}
use Rattle.function_blocks.specs.declared.fields.Role.TheVariants.{Input, Output, Hidden}
use Rattle.function_blocks.specs.Values.{Value, in_type}

-- a field: its name in capitals, what a program may do with it, its type, and its first value
pub record Field : Type 0 where
  pub name : List ℕ
  pub role : Role
  pub kind : Kind
  pub first : ℤ

-- a field that starts at 0
abbrev pub field : List ℕ → Role → Kind → Field
field name role kind = record { name = name; role = role; kind = kind; first = pos 0 }

-- R_TRIG and F_TRIG, whose M starts at a number
abbrev pub trigger_fields : ℤ → List Field
trigger_fields number =
    field (codes "CLK") Input kind.Bool
    ∷ field (codes "Q") Output kind.Bool
    ∷ record (field (codes "M") Hidden kind.Bool) { first = number }
    ∷ []

-- SR and RS, with the names of their inputs
abbrev pub bistable_fields : (set reset : List ℕ) → List Field
bistable_fields set reset =
    field set Input kind.Bool ∷ field reset Input kind.Bool ∷ field (codes "Q1") Output kind.Bool ∷ []

-- CTU and CTD, with the names of their first inputs
abbrev pub counter_fields : (count reset : List ℕ) → List Field
counter_fields count reset =
    field count Input kind.Bool
    ∷ field reset Input kind.Bool
    ∷ field (codes "PV") Input kind.Int
    ∷ field (codes "Q") Output kind.Bool
    ∷ field (codes "CV") Output kind.Int
    ∷ field (codes "M") Hidden kind.Bool
    ∷ []

-- TON, TOF and TP
abbrev pub timer_fields : List Field
timer_fields =
    field (codes "IN") Input kind.Bool
    ∷ field (codes "PT") Input kind.Dint
    ∷ field (codes "Q") Output kind.Bool
    ∷ field (codes "ET") Output kind.Dint
    ∷ field (codes "M") Hidden kind.Bool
    ∷ []

-- the fields of each block; M of F_TRIG starts at 1 (own rule: its first call is no edge), all other fields at 0
abbrev pub fields_of : BlockKind → List Field
fields_of block.RTrig = trigger_fields (pos 0)
fields_of block.FTrig = trigger_fields (pos 1)
fields_of block.Sr = bistable_fields (codes "S1") (codes "R")
fields_of block.Rs = bistable_fields (codes "S") (codes "R1")
fields_of block.Ctu = counter_fields (codes "CU") (codes "R")
fields_of block.Ctd = counter_fields (codes "CD") (codes "LD")
fields_of block.Ton = timer_fields
fields_of block.Tof = timer_fields
fields_of block.Tp = timer_fields

-- how many fields a block has, which is how many words it has
abbrev pub field_count : BlockKind → ℕ
field_count b = length (fields_of b)

-- the names of a block's fields
abbrev pub field_names : BlockKind → List (List ℕ)
field_names b = map (λ f. f.name) (fields_of b)

-- the first values of a block's words
abbrev pub first_values : BlockKind → List ℤ
first_values b = map (λ f. f.first) (fields_of b)

-- the field is an input
abbrev pub is_input : Role → Bool
is_input Input = true
is_input Output = false
is_input Hidden = false

-- the field is an output
abbrev pub is_output : Role → Bool
is_output Input = false
is_output Output = true
is_output Hidden = false

-- the type of a field, where there is one
abbrev pub kind_of : Option Field → Option Kind
kind_of field = option_map (λ f. f.kind) field

-- the type of the input of that name; None where the block has no such input
abbrev pub input_named : BlockKind → List ℕ → Option Kind
input_named b name = kind_of (find (λ f. is_input f.role && bytes_eq name f.name) (fields_of b))

-- the type of the output of that name; None where the block has no such output
abbrev pub output_named : BlockKind → List ℕ → Option Kind
output_named b name = kind_of (find (λ f. is_output f.role && bytes_eq name f.name) (fields_of b))

-- the words from a place on, each read in the type of its field
abbrev pub read_from : ℕ → List Field → List ℤ → List Value
read_from place [] words = []
read_from place (f ∷ more) words =
    in_type f.kind (slice_index_or words place (pos 0)) ∷ read_from (place + 1) more words

-- a block's words, each read in the type of its field
abbrev pub read_fields : BlockKind → List ℤ → List Value
read_fields b words = read_from 0 (fields_of b) words

-- a field as the call that answers it has it
abbrev pub shown : BlockField → Field
shown f = record { name = f.name.now; role = f.role; kind = f.kind; first = f.first }
