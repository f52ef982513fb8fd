use Rattle.memory_compare.proofs.AllMemories.{rising}
use Rattle.memory_compare.proofs.laws.changes_rise.Goals as goal

pub returns : goal.returns
returns c = rising
