use Rattle.majority_laws.proofs.Recovery.{recovers_from_any_state, recovers_in_time}
use Rattle.majority_laws.proofs.laws.legs_recover_from_any_state.Goals as goal

pub returns : goal.returns
returns c = record { in_two_rotations = recovers_from_any_state; in_time = recovers_in_time }
