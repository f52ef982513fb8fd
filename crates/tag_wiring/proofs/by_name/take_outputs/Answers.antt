use Rattle.tag_wiring.proofs.Declaring.{have_words}
use Rattle.tag_wiring.proofs.by_name.take_outputs.Goals as goal

pub take_points-requires-clause-have : goal.take_points-requires-clause-have
take_points-requires-clause-have c = have_words c.args.layout.now c.requires.declared
