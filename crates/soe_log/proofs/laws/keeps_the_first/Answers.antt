use Rattle.soe_log.proofs.Whole.{keeps_the_first}
use Rattle.soe_log.proofs.laws.keeps_the_first.Goals as goal

pub returns : goal.returns
returns c = keeps_the_first
