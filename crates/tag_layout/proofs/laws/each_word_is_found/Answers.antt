use Rattle.tag_layout.proofs.Lying.{found_by_name}
use Rattle.tag_layout.proofs.laws.each_word_is_found.Goals as goal

pub returns : goal.returns
returns c = found_by_name
