use Rattle.std.proofs.Common.{◌≡◌, take}
use Rattle.std.specs.List.{flat_map}
use Rattle.st_types.proofs.declarations.blocks_fault.Given as goal
use Rattle.st_tree.specs.Typing.Faults.{first_of}
use Rattle.st_tree.specs.Typing.Declarations.{block_faults}

abbrev pub invariant-loop-block : goal.invariant-loop-block
invariant-loop-block l = l.fault ≡ first_of (flat_map block_faults (take l.block-index l.blocks))
