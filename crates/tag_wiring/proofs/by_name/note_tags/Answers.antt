use Rattle.tag_wiring.proofs.ByName.{note_whole}
use Rattle.tag_wiring.proofs.by_name.note_tags.Goals as goal

pub returns-clause-pairs : goal.returns-clause-pairs
returns-clause-pairs c =
    note_whole c.args.chassis.now c.args.layout.now c.args.words.now c.tags-tag-items.result.now c.loop-tag.tag-index c.loop-tag.touched.pairs c.requires.have c.tags-tag-items.ensures.apart
    c.loop-tag-test.false c.tags-tag-items.ensures.value c.loop-tag.invariant.0
