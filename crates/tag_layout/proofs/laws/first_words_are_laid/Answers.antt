use Rattle.tag_layout.proofs.FirstValues.{first_laid}
use Rattle.tag_layout.proofs.laws.first_words_are_laid.Goals as goal

pub returns : goal.returns
returns c = first_laid
