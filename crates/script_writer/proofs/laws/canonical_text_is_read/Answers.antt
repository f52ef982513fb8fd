use Rattle.script_writer.proofs.Round.{round}
use Rattle.script_writer.proofs.laws.canonical_text_is_read.Goals as goal

pub returns : goal.returns
returns c = round
