use Rattle.std.proofs.Common.{◌+◌, sym, ◌∙◌}
use Rattle.tag_layout.proofs.Placing.{place_more, place_whole, total_more}
use Rattle.tag_layout.proofs.placed.place_tags.Goals as goal

pub loop-tag-preserved : goal.loop-tag-preserved
loop-tag-preserved c =
    let tags = c.args.tags.now in
    let t = c.tag-item.result in (
      place_more tags c.loop-tag.tag-index t c.loop-tag.address c.loop-tag.placed.items c.push_placed.new.placed.items c.loop-tag-test.true c.tag-item.is c.loop-tag.invariant.1 c.loop-tag.invariant.0 c.in_ok-push_placed.ensures,
      (λ j. c.loop-tag.invariant.1 j + c.words_of-address.ensures j) ∙ sym (total_more tags c.loop-tag.tag-index t c.loop-tag-test.true c.tag-item.is),
    )

pub returns : goal.returns
returns c = place_whole c.args.tags.now c.loop-tag.tag-index c.loop-tag.placed.items c.loop-tag-test.false c.loop-tag.invariant.0
