use Rattle.leg_laws.proofs.Reached.{never_stuck}
use Rattle.leg_laws.proofs.laws.legs_are_never_stuck.Goals as goal

pub returns : goal.returns
returns c = never_stuck
