use Rattle.tag_wiring.proofs.Holding.{words_hold}
use Rattle.tag_wiring.proofs.laws.words_hold_an_environment.Goals as goal

pub returns : goal.returns
returns c = words_hold
