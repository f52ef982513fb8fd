use Rattle.soe_log.proofs.Whole.{plays_fit}
use Rattle.soe_log.proofs.laws.plays_fit.Goals as goal

pub returns : goal.returns
returns c = plays_fit
