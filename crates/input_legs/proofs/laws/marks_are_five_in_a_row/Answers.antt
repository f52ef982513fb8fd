use Rattle.input_legs.proofs.Tables.{marks_are_five}
use Rattle.input_legs.proofs.laws.marks_are_five_in_a_row.Goals as goal

pub returns : goal.returns
returns c = marks_are_five
