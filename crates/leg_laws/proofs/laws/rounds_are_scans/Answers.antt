use Rattle.leg_laws.proofs.Scans.{next_scan}
use Rattle.leg_laws.proofs.laws.rounds_are_scans.Goals as goal

pub returns : goal.returns
returns c = next_scan
