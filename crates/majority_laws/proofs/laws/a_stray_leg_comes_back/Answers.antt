use Rattle.majority_laws.proofs.WorkedRecovery.{stray_leg_worked}
use Rattle.majority_laws.proofs.laws.a_stray_leg_comes_back.Goals as goal

pub returns : goal.returns
returns c = stray_leg_worked
