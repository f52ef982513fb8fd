use Rattle.std.proofs.Common.{◌≡◌, take}
use Rattle.std.specs.List.{flat_map}
use Rattle.st_types.proofs.labels.labels_fault.Given as goal
use Rattle.st_tree.specs.Typing.Faults.{first_of}
use Rattle.st_tree.specs.Typing.Statements.{label_faults}

abbrev pub invariant-loop-label : goal.invariant-loop-label
invariant-loop-label l = l.fault ≡ first_of (flat_map (label_faults l.kind) (take l.label-index l.more))
