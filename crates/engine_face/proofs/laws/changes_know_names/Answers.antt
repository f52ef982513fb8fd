use Rattle.engine_face.proofs.Changes.{known_where_accepted}
use Rattle.engine_face.proofs.laws.changes_know_names.Goals as goal

pub returns : goal.returns
returns c = known_where_accepted
