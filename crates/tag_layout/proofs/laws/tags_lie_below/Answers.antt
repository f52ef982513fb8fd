use Rattle.tag_layout.proofs.Lying.{lies_below}
use Rattle.tag_layout.proofs.laws.tags_lie_below.Goals as goal

pub returns : goal.returns
returns c = lies_below
