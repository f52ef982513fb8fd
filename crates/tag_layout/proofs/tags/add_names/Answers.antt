use Rattle.st_tree.specs.Tags.{tag_of}
use Rattle.st_types.proofs.Pushes.{mapped_pushed, mapped_whole}
use Rattle.tag_layout.proofs.tags.add_names.Goals as goal

pub returns : goal.returns
returns c = mapped_whole (tag_of c.args.external c.args.declared c.args.constant) c.args.tags.now.items c.args.names.now.first c.as_slice-name-items.result.now c.args.names.now.more c.loop-name.name-index c.loop-name.tags.items c.loop-name-test.false c.as_slice-name-items.ensures c.loop-name.invariant

pub loop-name-preserved : goal.loop-name-preserved
loop-name-preserved c = mapped_pushed (tag_of c.args.external c.args.declared c.args.constant) c.args.tags.now.items c.args.names.now.first c.as_slice-name-items.result.now c.loop-name.name-index c.name-item.result c.loop-name.tags.items _ c.loop-name-test.true c.name-item.is c.loop-name.invariant c.in_ok-add_name-2.ensures
