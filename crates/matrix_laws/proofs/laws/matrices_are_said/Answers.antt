use Rattle.matrix_laws.proofs.Said.{matrices_are_said}
use Rattle.matrix_laws.proofs.laws.matrices_are_said.Goals as goal

pub returns : goal.returns
returns c = matrices_are_said
