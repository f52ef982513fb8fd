use Rattle.majority_laws.proofs.GoodRuns.{recovers_to_good}
use Rattle.majority_laws.proofs.laws.legs_recover_to_good.Goals as goal

pub returns : goal.returns
returns c = recovers_to_good
