use Rattle.leg_core.proofs.Tapes.{reads_inputs}
use Rattle.leg_core.proofs.laws.readable_tapes_read_inputs.Goals as goal

pub returns : goal.returns
returns c = reads_inputs
