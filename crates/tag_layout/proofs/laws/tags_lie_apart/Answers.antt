use Rattle.tag_layout.proofs.Lying.{lies_apart}
use Rattle.tag_layout.proofs.laws.tags_lie_apart.Goals as goal

pub returns : goal.returns
returns c = lies_apart
