use Rattle.leg_laws.proofs.Joins.{joined_reached}
use Rattle.leg_laws.proofs.laws.legs_stay_joined.Goals as goal

pub returns : goal.returns
returns c = joined_reached
