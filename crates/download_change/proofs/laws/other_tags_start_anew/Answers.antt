use Rattle.download_change.proofs.Parts.{first_number}
use Rattle.download_change.proofs.laws.other_tags_start_anew.Goals as goal

pub returns : goal.returns
returns c = first_number
