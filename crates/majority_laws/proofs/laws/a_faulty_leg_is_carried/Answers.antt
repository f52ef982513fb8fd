use Rattle.majority_laws.proofs.WorkedPlay.{faulty_leg_worked}
use Rattle.majority_laws.proofs.laws.a_faulty_leg_is_carried.Goals as goal

pub returns : goal.returns
returns c = faulty_leg_worked
