use Rattle.majority_laws.proofs.Exchanging.{exchanging_carry, in_step_carry, in_step_end, settled_carry}
use Rattle.majority_laws.proofs.laws.exchanging_legs_carry.Goals as goal

pub returns : goal.returns
returns c = record {
  in_step = λ m v legs scan can is h first last calm. in_step_carry m v legs is scan can h first last calm;
  ends = in_step_end;
  steps = exchanging_carry;
  settled = settled_carry;
}
