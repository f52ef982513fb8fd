use Rattle.memory_compare.proofs.AllMemories.{sized}
use Rattle.memory_compare.proofs.laws.windows_are_whole.Goals as goal

pub returns : goal.returns
returns c = sized
