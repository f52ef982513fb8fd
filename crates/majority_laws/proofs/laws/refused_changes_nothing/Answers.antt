use Rattle.majority_laws.proofs.Sound.{refused_unchanged}
use Rattle.majority_laws.proofs.laws.refused_changes_nothing.Goals as goal

pub returns : goal.returns
returns c = refused_unchanged
