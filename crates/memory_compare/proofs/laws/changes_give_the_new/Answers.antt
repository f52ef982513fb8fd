use Rattle.memory_compare.proofs.AllMemories.{applied_changes}
use Rattle.memory_compare.proofs.laws.changes_give_the_new.Goals as goal

pub returns : goal.returns
returns c = applied_changes
