-- What the check of a program answers.
use Rattle.std.specs.Prelude.{◌≡◌, List, Some, Result, Ok, Err}
use Rattle.tri_base.specs.declared.point.Point.{Point}
use Rattle.st_tree.specs.declared.program.Tree.{Tree}
use Rattle.st_tree.specs.Typing.TypedPrograms.{TypedProgram}
use Rattle.st_tree.specs.Typing.Programs.{WellTyped, first_typing_fault}
use Rattle.st_types.specs.declared.fault.CheckFault.{CheckFault}
use Rattle.st_types.specs.declared.fault.CheckFault.TheVariants.{Fault, NoMemory}

-- Where the program is well typed, its tree with the points; else the first typing rule that it breaks, and where.
-- That memory fails says nothing of the program.
abbrev pub Checks : List Point → Tree → Result TypedProgram CheckFault → Type 0
Checks points tree (Ok typed) = (typed ≡ record { tree = tree; points = points }) × WellTyped points tree
Checks points tree (Err (Fault f)) = first_typing_fault points tree ≡ Some f
Checks points tree (Err NoMemory) = Unit {0}
