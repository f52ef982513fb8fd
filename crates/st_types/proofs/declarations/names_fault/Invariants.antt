use Rattle.std.proofs.Common.{◌≡◌, [], map, take, drop}
use Rattle.st_tree.specs.Typing.Faults.{first_of}
use Rattle.st_tree.specs.Typing.Declarations.{names_faults}
use Rattle.st_types.specs.Inner.Firsts.{soonest}
use Rattle.st_types.proofs.declarations.names_fault.Given as goal

abbrev pub invariant-loop-at : goal.invariant-loop-at
invariant-loop-at l = soonest l.fault (first_of (names_faults l.chassis (map (λ t. t.name) (take l.at l.tag-items)) (drop l.at l.tag-items))) ≡ first_of (names_faults l.chassis [] l.tags)
