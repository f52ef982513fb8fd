use Rattle.scan_machine.proofs.OneRun.{one_run}
use Rattle.scan_machine.proofs.laws.has_one_run.Goals as goal

pub returns : goal.returns
returns c = one_run
