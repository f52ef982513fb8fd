use Rattle.std.proofs.Common.{◌∙◌}
use Rattle.st_types.proofs.Lists.{part_more}
use Rattle.st_types.proofs.declarations.blocks_fault.Goals as goal
use Rattle.st_tree.specs.Typing.Declarations.{block_faults}

pub loop-block-preserved : goal.loop-block-preserved
loop-block-preserved c = c.soonest-fault.ensures ∙ part_more block_faults c.args.blocks.now c.loop-block.block-index c.block-item.result c.loop-block.fault c.block_fault.result c.loop-block-test.true c.block-item.is c.loop-block.invariant c.block_fault.ensures
