use Rattle.st_meaning.proofs.Worked.{worked}
use Rattle.st_meaning.proofs.worked_programs.Goals as goal

pub returns : goal.returns
returns c = worked
