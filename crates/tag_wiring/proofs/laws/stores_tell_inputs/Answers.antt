use Rattle.tag_wiring.proofs.TellingStores.{stores_tell}
use Rattle.tag_wiring.proofs.laws.stores_tell_inputs.Goals as goal

pub returns : goal.returns
returns c = stores_tell
