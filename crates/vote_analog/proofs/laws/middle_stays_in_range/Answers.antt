use Rattle.vote_analog.proofs.Ranges.{middle_in}
use Rattle.vote_analog.proofs.laws.middle_stays_in_range.Goals as goal

pub returns : goal.returns
returns c = middle_in
