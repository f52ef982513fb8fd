use Rattle.leg_laws.proofs.Schedules.{fed_is_step}
use Rattle.leg_laws.proofs.laws.fed_steps_are_steps.Goals as goal

pub returns : goal.returns
returns c = fed_is_step
