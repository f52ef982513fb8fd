use Rattle.scan_machine.proofs.Storing.{noted_stores}
use Rattle.scan_machine.proofs.laws.has_noted_stores.Goals as goal

pub returns : goal.returns
returns c = noted_stores
