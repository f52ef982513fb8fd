use Rattle.st_build.proofs.Carrying.{programs_hold_values}
use Rattle.st_build.proofs.laws.programs_hold_values.Goals as goal

pub returns : goal.returns
returns c = programs_hold_values
