use Rattle.std.proofs.Common.{[]}
use Rattle.st_tree.specs.Tags.{tags_of, tags_of_block}
use Rattle.st_types.proofs.Pushes.{flat_pushed, flat_whole}
use Rattle.tag_layout.proofs.tags.declared_tags.Goals as goal

pub returns : goal.returns
unfolding tags_of
returns c = flat_whole tags_of_block [] c.as_slice-block-items.result.now c.args.tree.now.blocks c.loop-block.block-index c.loop-block.tags.items c.loop-block-test.false c.as_slice-block-items.ensures c.loop-block.invariant

pub loop-block-preserved : goal.loop-block-preserved
loop-block-preserved c = flat_pushed tags_of_block [] c.as_slice-block-items.result.now c.loop-block.block-index c.block-item.result c.loop-block.tags.items c.add_block.new.tags.items c.loop-block-test.true c.block-item.is c.loop-block.invariant c.in_ok-add_block.ensures
