use Rattle.std.proofs.Common.{◌≡◌, take}
use Rattle.std.specs.List.{flat_map}
use Rattle.st_types.proofs.declarations.declarations_fault.Given as goal
use Rattle.st_tree.specs.Typing.Faults.{first_of}
use Rattle.st_tree.specs.Typing.Declarations.{declaration_faults}

abbrev pub invariant-loop-d : goal.invariant-loop-d
invariant-loop-d l = l.fault ≡ first_of (flat_map declaration_faults (take l.d-index l.declarations))
