use Rattle.tag_wiring.proofs.TakingWords.{outputs_are}
use Rattle.tag_wiring.proofs.laws.outputs_are_taken.Goals as goal

pub returns : goal.returns
returns c = outputs_are
