use Rattle.std.proofs.Common.{FitsSigned, w64, pos, slice_index_or, rules, sym, ap, ◌∙◌, drop}
use Rattle.std.proofs.lemmas.Int.{to_z-of_z}
use Rattle.tag_wiring.specs.Inner.Steps.{word_set}
use Rattle.tag_wiring.proofs.ByName.{output_passed, input_done}
use Rattle.tag_wiring.proofs.by_name.set_point.Goals as goal

pub returns-then-not-is_input-clause-list : goal.returns-then-not-is_input-clause-list
returns-then-not-is_input-clause-list c =
    output_passed c.args.layout.now c.args.point.now (drop c.args.place c.args.inputs.now) c.args.words.now.list (sym c.is_input.ensures ∙ c.if-not-is_input.true)

pub returns-clause-list : goal.returns-clause-list
returns-clause-list c =
    let words = c.args.words.now.list in
    let v = slice_index_or c.args.inputs.now c.args.place (pos 0) in
    let fits : FitsSigned w64 v = search rules in
    input_done c.args.layout.now c.args.point.now c.args.inputs.now words c.set_word.new.words.list c.args.place (sym c.is_input.ensures ∙ c.if-not-is_input.false) c.requires.inputs
    (ap (λ w. w.list) c.set_word.ensures ∙ (λ i. word_set words (c.point_address.ensures.value i) (to_z-of_z w64 v fits i)))
