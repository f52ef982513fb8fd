use Rattle.majority_laws.proofs.EqualVotes.{votes_equal}
use Rattle.majority_laws.proofs.Exchanging.{in_step_vote}
use Rattle.majority_laws.proofs.laws.votes_are_equal.Goals as goal

pub returns : goal.returns
returns c = record {
  noted = votes_equal;
  in_step = λ m v legs scan is h first last one. in_step_vote m v legs is scan h first last one;
}
