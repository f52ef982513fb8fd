use Rattle.std.proofs.Common.{ap, ◌∙◌}
use Rattle.chassis.specs.Points.{inputs_of}
use Rattle.tag_wiring.specs.Inner.Steps.{input_words}
use Rattle.tag_wiring.proofs.Declaring.{have_words}
use Rattle.tag_wiring.proofs.by_name.set_inputs.Goals as goal

pub returns-clause-words : goal.returns-clause-words
unfolding input_words
returns-clause-words c =
    c.set_points.ensures.list
    ∙ ap (λ ps. input_words c.args.layout.now (inputs_of ps) c.args.inputs.now c.args.words.now.list) c.points.ensures.value

pub note_tags-requires-clause-have : goal.note_tags-requires-clause-have
note_tags-requires-clause-have c = have_words c.args.layout.now c.requires.declared

pub set_points-requires-clause-have : goal.set_points-requires-clause-have
set_points-requires-clause-have c = have_words c.args.layout.now c.requires.declared
