use Rattle.majority_laws.proofs.Sound.{one_faulty_calm, two_legs_sound, undisturbed}
use Rattle.majority_laws.proofs.laws.one_faulty_leg_is_calm.Goals as goal

pub returns : goal.returns
returns c = record { two_sound = two_legs_sound; no_faults = undisturbed; one_faulty = one_faulty_calm }
