use Rattle.output_voter.proofs.Equal.{two_are_voted}
use Rattle.output_voter.proofs.laws.two_equal_drives_are_voted.Goals as goal

pub returns : goal.returns
returns c = two_are_voted
