use Rattle.download_change.proofs.Examples.{worked}
use Rattle.download_change.proofs.laws.worked_downloads.Goals as goal

pub returns : goal.returns
returns c = worked
