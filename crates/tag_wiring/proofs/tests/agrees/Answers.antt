use Rattle.std.proofs.Common.{◌≡◌, ◌≤◌, length, rules, arith, sym, ap, ◌∙◌}
use Rattle.chassis.specs.Points.{inputs_of, outputs_of}
use Rattle.tag_layout.specs.Layout.{total_words}
use Rattle.tag_wiring.specs.PointWords.{PointsAndTags}
use Rattle.tag_wiring.proofs.tests.agrees.Goals as goal

pub set_inputs-requires-clause-inputs : goal.set_inputs-requires-clause-inputs
set_inputs-requires-clause-inputs c =
    let one : 1 ≡ c.input_count.result = search rules in
    one ∙ (c.input_count.ensures ∙ ap (λ ps. length (inputs_of ps)) (c.points.ensures.value ∙ sym (ap (λ (v : PointsAndTags). v.points) c.requires)))

pub set_inputs-requires-clause-words : goal.set_inputs-requires-clause-words
set_inputs-requires-clause-words c =
    let two : 2 ≡ c.words-else-input_count-ne1.result = search rules in
    let count : length c.add-2.new.self.list ≡ 2 = search rules in
    count ∙ (two ∙ (c.words-else-input_count-ne1.ensures.value ∙ ap total_words (sym (ap (λ (v : PointsAndTags). v.tags) c.requires))))

pub set_inputs-requires-clause-touched : goal.set_inputs-requires-clause-touched
set_inputs-requires-clause-touched c =
    let two : 2 ≡ c.words-else-input_count-ne1.result = search rules in
    let size : c.in_ok-touched.touched.size ≡ 2 = search rules in
    let total = two ∙ (c.words-else-input_count-ne1.ensures.value ∙ ap total_words (sym (ap (λ (v : PointsAndTags). v.tags) c.requires))) in
    omega (arith, size, total)

pub take_outputs-requires-clause-words : goal.take_outputs-requires-clause-words
take_outputs-requires-clause-words c =
    let two : 2 ≡ c.words-else-input_count-ne1.result = search rules in
    let count : length c.add-2.new.self.list ≡ 2 = search rules in
    ap length c.items.ensures
    ∙ (c.set_inputs.ensures.count
    ∙ (count ∙ (two ∙ (c.words-else-input_count-ne1.ensures.value ∙ ap total_words (sym (ap (λ (v : PointsAndTags). v.tags) c.requires))))))

pub take_outputs-requires-clause-room : goal.take_outputs-requires-clause-room
take_outputs-requires-clause-room c =
    let room : 256 ≤ c.reserve.new.self.spare = search rules in
    let few = c.points.ensures.chassis.few_outputs in
    let points = ap (λ ps. length (outputs_of ps)) (ap (λ (v : PointsAndTags). v.points) c.requires) in
    omega (arith, room, few, points)
