use Rattle.matrix_laws.proofs.Scanned.{programs_do_steps}
use Rattle.matrix_laws.proofs.laws.programs_do_steps.Goals as goal

pub returns : goal.returns
returns c = programs_do_steps
