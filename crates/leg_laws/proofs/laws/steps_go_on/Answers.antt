use Rattle.leg_laws.proofs.Reached.{steps_on}
use Rattle.leg_laws.proofs.laws.steps_go_on.Goals as goal

pub returns : goal.returns
returns c = steps_on
