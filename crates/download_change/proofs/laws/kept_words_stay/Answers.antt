use Rattle.download_change.proofs.Parts.{kept_word}
use Rattle.download_change.proofs.laws.kept_words_stay.Goals as goal

pub returns : goal.returns
returns c = kept_word
