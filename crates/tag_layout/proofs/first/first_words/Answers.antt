use Rattle.std.proofs.Common.{[], refl, ◌∙◌}
use Rattle.st_types.proofs.Pushes.{flat_pushed, flat_whole}
use Rattle.tag_layout.proofs.FirstValues.{numbers, first_whole}
use Rattle.tag_layout.proofs.first.first_words.Goals as goal

pub loop-tag-preserved : goal.loop-tag-preserved
loop-tag-preserved c = flat_pushed numbers [] c.args.tags.now c.loop-tag.tag-index c.tag-item.result c.loop-tag.words.list c.push_tag.new.words.list c.loop-tag-test.true c.tag-item.is c.loop-tag.invariant c.in_ok-push_tag.ensures

pub returns : goal.returns
returns c = flat_whole numbers [] c.args.tags.now c.args.tags.now c.loop-tag.tag-index c.loop-tag.words.list c.loop-tag-test.false refl c.loop-tag.invariant ∙ first_whole c.args.tags.now
