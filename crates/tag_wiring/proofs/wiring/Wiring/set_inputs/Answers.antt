use Rattle.std.proofs.Common.{length, sym, ap, ◌∙◌}
use Rattle.std.specs.Prelude.{zip}
use Rattle.chassis.specs.Points.{inputs_of}
use Rattle.tag_layout.specs.Layout.{total_words}
use Rattle.tag_wiring.specs.PointWords.{PointsAndTags, inputs_set, input_tags, input_stores}
use Rattle.tag_wiring.proofs.SettingWords.{count_each}
use Rattle.tag_wiring.proofs.Wired.{told_in, told_once, addresses_in, set_is, stores_are}
use Rattle.tag_wiring.proofs.wiring.Wiring.set_inputs.Goals as goal

pub note_words-requires-clause-within : goal.note_words-requires-clause-within
note_words-requires-clause-within c =
    let s = c.self.inside in
    told_in s.mark s.tags.value c.as_slice.result.now (length c.items.result.now) (c.as_slice.ensures.value ∙ c.self.invariant.told) c.self.invariant.words
    (ap length c.items.ensures ∙ (c.requires.words ∙ sym (ap (λ (v : PointsAndTags). total_words v.tags) c.self.view_is)))

pub note_words-requires-clause-once : goal.note_words-requires-clause-once
note_words-requires-clause-once c =
    let s = c.self.inside in
    told_once s.mark s.tags.value c.as_slice.result.now (c.as_slice.ensures.value ∙ c.self.invariant.told) c.self.invariant.words c.self.invariant.apart

pub set_words-requires-clause-within : goal.set_words-requires-clause-within
set_words-requires-clause-within c =
    let s = c.self.inside in
    addresses_in s.tags.value (inputs_of s.mark) c.as_slice-2.result.now (length c.args.words.now.list) (c.as_slice-2.ensures.value ∙ c.self.invariant.inputs) c.self.invariant.words
    (c.requires.words ∙ sym (ap (λ (v : PointsAndTags). total_words v.tags) c.self.view_is))

pub returns-clause-words : goal.returns-clause-words
returns-clause-words c =
    let s = c.self.inside in
    let words = c.args.words.now.list in
    ap (λ w. w.list) c.set_words.ensures
    ∙ (set_is s.tags.value (inputs_of s.mark) c.as_slice-2.result.now c.args.inputs.now words (c.as_slice-2.ensures.value ∙ c.self.invariant.inputs)
    ∙ ap (λ (v : PointsAndTags). inputs_set v.points v.tags c.args.inputs.now words) c.self.view_is)

pub returns-clause-count : goal.returns-clause-count
returns-clause-count c =
    let s = c.self.inside in
    let words = c.args.words.now.list in
    let points = inputs_of s.mark in
    ap (λ w. length w.list) c.set_words.ensures
    ∙ (ap length (set_is s.tags.value points c.as_slice-2.result.now c.args.inputs.now words (c.as_slice-2.ensures.value ∙ c.self.invariant.inputs))
    ∙ count_each s.tags.value words (zip points c.args.inputs.now))

pub returns-clause-touched : goal.returns-clause-touched
returns-clause-touched c =
    let s = c.self.inside in
    let words = c.args.words.now.list in
    ap (λ t. t.pairs) c.note_words.ensures
    ∙ (stores_are s.tags.value (input_tags s.mark s.tags.value) c.as_slice.result.now c.items.result.now words (c.as_slice.ensures.value ∙ c.self.invariant.told) c.items.ensures
    ∙ ap (λ (v : PointsAndTags). input_stores v.points v.tags words) c.self.view_is)
