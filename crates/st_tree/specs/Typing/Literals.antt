-- Literals: the integers that a program writes. Each must lie in the range of its type (IEC 61131-3:2013, 6.3.2 and
-- 6.4.2). A number right behind a minus sign is judged with its sign.
use Rattle.std.specs.Prelude.{ℤ, int_le, Bool, not, ◌&&◌, List}
use Rattle.std.specs.List.{flat_map}
use Rattle.tri_base.specs.declared.faults.TypeCause.TheVariants as cause
use Rattle.tri_base.specs.declared.faults.TypeFault.{TypeFault}
use Rattle.function_blocks.specs.declared.kinds.Kind.{Kind}
use Rattle.function_blocks.specs.Values.{least, greatest}
use Rattle.st_tree.specs.declared.declaration.Integer.{Integer}
use Rattle.st_tree.specs.Integers.{integer_value}
use Rattle.st_tree.specs.Typing.Faults.{fault_if}

-- the number lies in the range of the type
abbrev pub holds : Kind → ℤ → Bool
holds k z = int_le (least k) z && int_le z (greatest k)

-- a literal of this type; the place of its fault is that of its number
abbrev pub range_faults : Kind → Integer → List TypeFault
range_faults k literal = fault_if (not (holds k (integer_value literal))) literal.place cause.LiteralRange

-- literals that all have this type
abbrev pub outside : Kind → List Integer → List TypeFault
outside k literals = flat_map (range_faults k) literals
