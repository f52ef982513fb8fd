use Rattle.download_change.proofs.Parts.{carried_laid}
use Rattle.download_change.proofs.laws.carried_words_are_laid.Goals as goal

pub returns : goal.returns
returns c = carried_laid
