use Rattle.tag_wiring.proofs.TakingWords.{outputs_within}
use Rattle.tag_wiring.proofs.laws.outputs_lie_within.Goals as goal

pub returns : goal.returns
returns c = outputs_within
