use Rattle.input_legs.proofs.Between.{votes_between}
use Rattle.input_legs.proofs.laws.votes_lie_between.Goals as goal

pub returns : goal.returns
returns c = votes_between
