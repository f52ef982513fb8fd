use Rattle.leg_laws.proofs.Ring.{one_play}
use Rattle.leg_laws.proofs.laws.linked_legs_have_one_play.Goals as goal

pub returns : goal.returns
returns c = one_play
