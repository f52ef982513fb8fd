use Rattle.st_core.proofs.Counts.{has_turns}
use Rattle.st_core.proofs.has_turns.Goals as goal

pub returns : goal.returns
returns c = has_turns
