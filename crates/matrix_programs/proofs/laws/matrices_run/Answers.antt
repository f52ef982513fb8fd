use Rattle.matrix_programs.proofs.Running.{matrices_run}
use Rattle.matrix_programs.proofs.laws.matrices_run.Goals as goal

pub returns : goal.returns
returns c = matrices_run
