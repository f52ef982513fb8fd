use Rattle.st_build.proofs.Carrying.{words_hold_values}
use Rattle.st_build.proofs.laws.words_hold_values.Goals as goal

pub returns : goal.returns
returns c = words_hold_values
