-- The typing rules that declarations break (IEC 61131-3:2013, 6.4 and 6.5).
use Rattle.std.specs.Prelude.{ℕ, int_lt, Bool, true, false, not, if◌then◌else◌, List, [], ◌∷◌, ◌++◌, Option, Some, None}
use Rattle.std.specs.List.{flat_map, list_any}
use Rattle.std.specs.Str.{bytes_eq}
use Rattle.tri_base.specs.declared.point.Point.{Point}
use Rattle.tri_base.specs.declared.faults.TypeCause.TheVariants as cause
use Rattle.tri_base.specs.declared.faults.TypeFault.{TypeFault}
use Rattle.function_blocks.specs.declared.kinds.Kind.{Kind}
use Rattle.function_blocks.specs.declared.kinds.Kind.TheVariants as kind
use Rattle.st_tree.specs.declared.declaration.Constant.{Constant}
use Rattle.st_tree.specs.declared.declaration.Constant.TheVariants as constant
use Rattle.st_tree.specs.declared.declaration.DeclaredType.{DeclaredType}
use Rattle.st_tree.specs.declared.declaration.DeclaredType.TheVariants as declared
use Rattle.st_tree.specs.declared.declaration.Declaration.{Declaration}
use Rattle.st_tree.specs.declared.declaration.Block.{Block}
use Rattle.st_tree.specs.declared.declaration.Block.TheVariants as part
use Rattle.st_tree.specs.declared.tag.Tag.{Tag}
use Rattle.st_tree.specs.Integers.{integer_value, integer_place}
use Rattle.st_tree.specs.Typing.Faults.{fault, fault_if}
use Rattle.st_tree.specs.Typing.Points.{point_named, kind_of_point}
use Rattle.st_tree.specs.Typing.Literals.{range_faults}
use Rattle.st_tree.specs.Typing.Operands.{same_kind}

-- ---- names

-- a tag of a point of this type
abbrev pub kind_faults : ℕ → Kind → DeclaredType → List TypeFault
kind_faults place k (declared.Simple own) = fault_if (not (same_kind k own)) place cause.PointKind
kind_faults place k (declared.Array low high element) = fault place cause.PointKind ∷ []
kind_faults place k (declared.Block b) = fault place cause.PointKind ∷ []

-- a tag of VAR_EXTERNAL stands for the point of its name, and has the point's type
abbrev pub point_faults : Tag → Option Point → List TypeFault
point_faults tag None = fault tag.place cause.NoSuchPoint ∷ []
point_faults tag (Some p) = kind_faults tag.place (kind_of_point p.kind) tag.declared

-- a name that isn't declared before
abbrev pub new_name_faults : List Point → Tag → List TypeFault
new_name_faults points tag = if tag.external then point_faults tag (point_named points tag.name) else []

-- a name that is declared before, or not
abbrev pub name_faults : List Point → Bool → Tag → List TypeFault
name_faults points true tag = fault tag.place cause.Twice ∷ []
name_faults points false tag = new_name_faults points tag

-- tags behind others, which have these names
abbrev pub names_faults : List Point → List (List ℕ) → List Tag → List TypeFault
names_faults points before [] = []
names_faults points before (tag ∷ tags) =
    name_faults points (list_any (bytes_eq tag.name) before) tag ++ names_faults points (before ++ tag.name ∷ []) tags

-- ---- first values and bounds

-- the place of a constant's first token
abbrev pub constant_place : Constant → ℕ
constant_place (constant.Integer i) = integer_place i
constant_place (constant.Truth value place) = place

-- a constant for one word of this type
abbrev pub word_faults : Kind → Constant → List TypeFault
word_faults kind.Bool (constant.Integer i) = fault (integer_place i) cause.WrongType ∷ []
word_faults kind.Bool (constant.Truth value place) = []
word_faults k (constant.Integer i) = range_faults k i
word_faults k (constant.Truth value place) = fault place cause.WrongType ∷ []

-- a first value; each element of an array starts with it, and a block has none (own rules)
abbrev pub constant_faults : DeclaredType → Option Constant → List TypeFault
constant_faults d None = []
constant_faults (declared.Simple k) (Some c) = word_faults k c
constant_faults (declared.Array low high k) (Some c) = word_faults k c
constant_faults (declared.Block b) (Some c) = fault (constant_place c) cause.WrongType ∷ []

-- the bounds of an array are DINT, the upper one not below the lower one
abbrev pub bound_faults : DeclaredType → List TypeFault
bound_faults (declared.Simple k) = []
bound_faults (declared.Block b) = []
bound_faults (declared.Array low high k) =
    range_faults kind.Dint low ++ range_faults kind.Dint high
    ++ fault_if (int_lt (integer_value high) (integer_value low)) high.place cause.LiteralRange

-- the bounds and the first value of a declaration
abbrev pub declaration_faults : Declaration → List TypeFault
declaration_faults d = bound_faults d.declared ++ constant_faults d.declared d.constant

-- a block of declarations; those of VAR_EXTERNAL have neither bounds nor first values
abbrev pub block_faults : Block → List TypeFault
block_faults (part.Plain declarations) = flat_map declaration_faults declarations
block_faults (part.External declarations) = []
