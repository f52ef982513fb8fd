use Rattle.std.proofs.Common.{◌++◌, map, length, sym, ap, ◌∙◌}
use Rattle.chassis.specs.Points.{outputs_of}
use Rattle.tag_layout.specs.Layout.{total_words}
use Rattle.tag_wiring.specs.PointWords.{PointsAndTags, outputs_from}
use Rattle.tag_wiring.specs.Inner.Wires.{value_in}
use Rattle.tag_wiring.proofs.Wired.{wires_in, taken_are}
use Rattle.tag_wiring.proofs.wiring.Wiring.take_outputs.Goals as goal

pub take_words-requires-clause-within : goal.take_words-requires-clause-within
take_words-requires-clause-within c =
    let s = c.self.inside in
    wires_in s.tags.value (outputs_of s.mark) c.as_slice.result.now (length c.args.words.now) (c.as_slice.ensures.value ∙ c.self.invariant.outputs) c.self.invariant.words
    (c.requires.words ∙ sym (ap (λ (v : PointsAndTags). total_words v.tags) c.self.view_is))

pub returns-clause-list : goal.returns-clause-list
returns-clause-list c =
    let s = c.self.inside in
    let words = c.args.words.now in
    c.take_words.ensures.list
    ∙ (ap (λ l. l ++ map (value_in words) c.as_slice.result.now) c.clear.ensures.list
    ∙ (taken_are s.tags.value (outputs_of s.mark) c.as_slice.result.now words (c.as_slice.ensures.value ∙ c.self.invariant.outputs)
    ∙ ap (λ (v : PointsAndTags). outputs_from v.points v.tags words) c.self.view_is))
