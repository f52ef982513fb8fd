use Rattle.leg_laws.proofs.Reached.{scripts_stay_in_step, stay_in_step}
use Rattle.leg_laws.proofs.laws.legs_stay_in_step.Goals as goal

pub returns : goal.returns
returns c = record { any_tapes = stay_in_step; of_a_script = scripts_stay_in_step }
