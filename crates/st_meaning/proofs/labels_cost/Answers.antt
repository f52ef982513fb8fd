use Rattle.st_meaning.proofs.Dearest.{labels}
use Rattle.st_meaning.proofs.labels_cost.Goals as goal

pub returns : goal.returns
returns c = labels
