use Rattle.memory_compare.proofs.AllMemories.{bytes_shown}
use Rattle.memory_compare.proofs.laws.windows_show_bytes.Goals as goal

pub returns : goal.returns
returns c = bytes_shown
