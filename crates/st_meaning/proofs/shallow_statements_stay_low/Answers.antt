use Rattle.st_meaning.proofs.LowStatements.{stays_low}
use Rattle.st_meaning.proofs.shallow_statements_stay_low.Goals as goal

pub returns : goal.returns
returns c = stays_low
