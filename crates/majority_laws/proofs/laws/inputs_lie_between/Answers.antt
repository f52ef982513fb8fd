use Rattle.majority_laws.proofs.Between.{between_sound}
use Rattle.majority_laws.proofs.laws.inputs_lie_between.Goals as goal

pub returns : goal.returns
returns c = between_sound
