use Rattle.download_change.proofs.OneHeir.{one_origin}
use Rattle.download_change.proofs.laws.heirs_are_apart.Goals as goal

pub returns : goal.returns
returns c = one_origin
