use Rattle.tag_wiring.proofs.Looping.{told_more, told_whole}
use Rattle.tag_wiring.proofs.tables.told_addresses.Goals as goal

pub loop-tag-preserved : goal.loop-tag-preserved
loop-tag-preserved c =
    told_more c.args.chassis.now c.args.layout.now c.tags-tag-items.result.now c.loop-tag.tag-index c.tag-item.result
    c.loop-tag.told.items c.push_told.new.told.items c.loop-tag-test.true c.tag-item.is c.loop-tag.invariant c.in_ok-push_told.ensures

pub returns-clause-told : goal.returns-clause-told
returns-clause-told c =
    told_whole c.args.chassis.now c.args.layout.now c.tags-tag-items.result.now c.loop-tag.tag-index
    c.loop-tag.told.items c.loop-tag-test.false c.tags-tag-items.ensures.value c.loop-tag.invariant
