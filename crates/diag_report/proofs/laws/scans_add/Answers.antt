use Rattle.diag_report.proofs.Growing.{scans_add}
use Rattle.diag_report.proofs.laws.scans_add.Goals as goal

pub returns : goal.returns
returns c = scans_add
