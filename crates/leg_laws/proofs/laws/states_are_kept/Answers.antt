use Rattle.leg_laws.proofs.KeptStates.{states_kept}
use Rattle.leg_laws.proofs.laws.states_are_kept.Goals as goal

pub returns : goal.returns
returns c = states_kept
