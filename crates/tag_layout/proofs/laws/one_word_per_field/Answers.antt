use Rattle.tag_layout.proofs.Standing.{counts}
use Rattle.tag_layout.proofs.laws.one_word_per_field.Goals as goal

pub returns : goal.returns
returns c = counts
