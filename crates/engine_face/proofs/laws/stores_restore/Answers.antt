use Rattle.engine_face.proofs.Restoring.{stores_restore}
use Rattle.engine_face.proofs.laws.stores_restore.Goals as goal

pub returns : goal.returns
returns c = stores_restore
