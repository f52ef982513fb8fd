use Rattle.tag_layout.proofs.Examples.{worked}
use Rattle.tag_layout.proofs.laws.worked_layouts.Goals as goal

pub returns : goal.returns
returns c = worked
