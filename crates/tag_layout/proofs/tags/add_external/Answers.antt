use Rattle.std.proofs.Common.{refl}
use Rattle.st_tree.specs.Tags.{tags_of_external}
use Rattle.st_types.proofs.Pushes.{flat_pushed, flat_whole}
use Rattle.tag_layout.proofs.tags.add_external.Goals as goal

pub returns : goal.returns
returns c = flat_whole tags_of_external c.args.tags.now.items c.args.declarations.now c.args.declarations.now c.loop-d.d-index c.loop-d.tags.items c.loop-d-test.false refl c.loop-d.invariant

pub loop-d-preserved : goal.loop-d-preserved
loop-d-preserved c = flat_pushed tags_of_external c.args.tags.now.items c.args.declarations.now c.loop-d.d-index c.d-item.result c.loop-d.tags.items c.add_names.new.tags.items c.loop-d-test.true c.d-item.is c.loop-d.invariant c.in_ok-add_names.ensures
