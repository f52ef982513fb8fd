use Rattle.std.proofs.Common.{◌<◌, ◌≤◌, length, FitsSigned, w64, to_z, of_z, rules, arith, ◌∙◌}
use Rattle.std.proofs.lemmas.Int.{to_z-of_z}
use Rattle.function_blocks.specs.Fields.{first_values}
use Rattle.tag_layout.proofs.FirstValues.{values_more, values_whole, value_count}
use Rattle.tag_layout.proofs.first.push_block.Goals as goal

pub loop-place-preserved : goal.loop-place-preserved
loop-place-preserved c =
    let within : c.loop-place.place < length (first_values c.args.block) = omega (arith, c.loop-place-test.true, c.field_count-place-end.ensures, value_count c.args.block) in
    let fits : FitsSigned w64 c.first_of_field.result = search rules in
    values_more (first_values c.args.block) c.args.words.now.list c.loop-place.words.list c.push_word.new.words.list c.loop-place.place (to_z w64 (of_z w64 c.first_of_field.result)) within (to_z-of_z w64 c.first_of_field.result fits ∙ c.first_of_field.ensures) c.loop-place.invariant c.in_ok-push_word.ensures.list

pub returns : goal.returns
returns c =
    let past : length (first_values c.args.block) ≤ c.loop-place.place = omega (arith, c.loop-place-test.false, c.field_count-place-end.ensures, value_count c.args.block) in
    values_whole (first_values c.args.block) c.args.words.now.list c.loop-place.words.list c.loop-place.place past c.loop-place.invariant
