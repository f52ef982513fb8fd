use Rattle.download_change.proofs.Parts.{kept_number}
use Rattle.download_change.proofs.laws.kept_tags_keep_their_values.Goals as goal

pub returns : goal.returns
returns c = kept_number
