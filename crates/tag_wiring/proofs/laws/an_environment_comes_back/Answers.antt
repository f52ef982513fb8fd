use Rattle.tag_wiring.proofs.Holding.{comes_back}
use Rattle.tag_wiring.proofs.laws.an_environment_comes_back.Goals as goal

pub returns : goal.returns
returns c = comes_back
