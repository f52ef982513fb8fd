use Rattle.std.proofs.Common.{◌≡◌, [], ◌++◌, length, sym, ap, ◌∙◌}
use Rattle.st_types.proofs.Pushes.{flat_pushed, flat_whole}
use Rattle.tag_layout.specs.declared.placed.PlacedTag.{PlacedTag}
use Rattle.tag_layout.specs.Layout.{placed_tags}
use Rattle.download_change.specs.Kept.{carried_part, carried_words, kept_for}
use Rattle.download_change.specs.Inner.Origins.{kept_by_name}
use Rattle.download_change.proofs.OneHeir.{apart_of, kept_is}
use Rattle.download_change.proofs.Parts.{kept_within, tag_within, carried_count}
use Rattle.download_change.proofs.carrying.carry.Goals as goal

pub part-requires-clause-kept : goal.part-requires-clause-kept
part-requires-clause-kept c =
    let old = c.args.old.now in
    let renames = c.args.renames.now in
    let t = c.tag-item.result in
    let found : c.kept-origin.result ≡ kept_for old renames t =
    c.kept-origin.ensures ∙ (ap (λ rs. kept_by_name old rs t) c.in_ok-table.ensures ∙ sym (kept_is old renames (apart_of old c.args.new.now renames c.requires.known) t)) in
    kept_within old renames t c.kept-origin.result _ found (ap length c.items-in-loop-tag.ensures ∙ c.requires.words)

pub part-requires-clause-first : goal.part-requires-clause-first
part-requires-clause-first c =
    tag_within c.args.new.now c.tags-tag-items.result.now c.loop-tag.tag-index c.tag-item.result _ c.tags-tag-items.ensures.value c.loop-tag-test.true c.tag-item.is (ap length c.items.ensures ∙ c.requires.first)

pub loop-tag-preserved : goal.loop-tag-preserved
loop-tag-preserved c =
    let old = c.args.old.now in
    let renames = c.args.renames.now in
    let t = c.tag-item.result in
    let found : c.kept-origin.result ≡ kept_for old renames t =
    c.kept-origin.ensures ∙ (ap (λ rs. kept_by_name old rs t) c.in_ok-table.ensures ∙ sym (kept_is old renames (apart_of old c.args.new.now renames c.requires.known) t)) in
    flat_pushed (λ (u : PlacedTag). carried_part c.args.words.now.list c.args.first.now.list (kept_for old renames u) u) [] c.tags-tag-items.result.now c.loop-tag.tag-index t c.loop-tag.carried.list c.push_words.new.words.list c.loop-tag-test.true c.tag-item.is c.loop-tag.invariant
    (c.in_ok-push_words.ensures ∙ ap (λ l. c.loop-tag.carried.list ++ l) (c.part.ensures ∙ (λ i. carried_part (c.items-in-loop-tag.ensures i) (c.items.ensures i) (found i) t)))

pub returns-clause-carried : goal.returns-clause-carried
unfolding carried_words
returns-clause-carried c =
    flat_whole (λ (u : PlacedTag). carried_part c.args.words.now.list c.args.first.now.list (kept_for c.args.old.now c.args.renames.now u) u) [] c.tags-tag-items.result.now (placed_tags c.args.new.now) c.loop-tag.tag-index c.loop-tag.carried.list c.loop-tag-test.false c.tags-tag-items.ensures.value c.loop-tag.invariant

pub returns-clause-count : goal.returns-clause-count
unfolding carried_words
returns-clause-count c =
    ap length (flat_whole (λ (u : PlacedTag). carried_part c.args.words.now.list c.args.first.now.list (kept_for c.args.old.now c.args.renames.now u) u) [] c.tags-tag-items.result.now (placed_tags c.args.new.now) c.loop-tag.tag-index c.loop-tag.carried.list c.loop-tag-test.false c.tags-tag-items.ensures.value c.loop-tag.invariant)
    ∙ carried_count c.args.old.now c.args.new.now c.args.renames.now c.args.first.now.list c.args.words.now.list c.requires.first c.requires.words
