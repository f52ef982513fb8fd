use Rattle.std.proofs.Common.{◌≡◌, drop, [], ◌∷◌}
use Rattle.st_types.proofs.calls.inputs_fault.Given as goal
use Rattle.st_tree.specs.Typing.Faults.{first_of}
use Rattle.st_types.specs.Inner.Firsts.{soonest}
use Rattle.st_tree.specs.Typing.Statements.{inputs_faults}

abbrev pub invariant-loop-input : goal.invariant-loop-input
invariant-loop-input l = soonest l.fault (first_of (inputs_faults l.tags l.block l.named.keys (drop l.input-index l.input-items))) ≡ first_of (inputs_faults l.tags l.block [] (l.inputs.first ∷ l.input-items))
