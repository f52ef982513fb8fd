use Rattle.memory_compare.proofs.AllMemories.{own_window}
use Rattle.memory_compare.proofs.laws.own_window_changes_nothing.Goals as goal

pub returns : goal.returns
returns c = own_window
