use Rattle.fault_history.proofs.Lasting.{keeps_the_last}
use Rattle.fault_history.proofs.laws.keeps_the_last.Goals as goal

pub returns : goal.returns
returns c = keeps_the_last
