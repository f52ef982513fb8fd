use Rattle.st_types.proofs.Pushes.{mapped_pushed, mapped_whole}
use Rattle.st_types.proofs.tags.add_names.Goals as goal
use Rattle.st_tree.specs.Tags.{tag_of}

pub returns : goal.returns
returns c = mapped_whole (tag_of c.args.external c.args.declared c.args.constant) c.args.tags.now c.args.names.now.first c.as_slice-name-items.result.now c.args.names.now.more c.loop-name.name-index c.loop-name.tags c.loop-name-test.false c.as_slice-name-items.ensures c.loop-name.invariant

pub loop-name-preserved : goal.loop-name-preserved
loop-name-preserved c = mapped_pushed (tag_of c.args.external c.args.declared c.args.constant) c.args.tags.now c.args.names.now.first c.as_slice-name-items.result.now c.loop-name.name-index c.name-item.result c.loop-name.tags _ c.loop-name-test.true c.name-item.is c.loop-name.invariant c.in_ok-add_name-2.ensures
