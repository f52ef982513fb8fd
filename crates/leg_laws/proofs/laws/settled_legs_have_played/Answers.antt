use Rattle.leg_laws.proofs.Settled.{settled_played}
use Rattle.leg_laws.proofs.laws.settled_legs_have_played.Goals as goal

pub returns : goal.returns
returns c = settled_played
