use Rattle.input_legs.proofs.Runs.{marks_are_runs}
use Rattle.input_legs.proofs.laws.five_in_a_row_are_a_mark.Goals as goal

pub returns : goal.returns
returns c = marks_are_runs
