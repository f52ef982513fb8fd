use Rattle.std.proofs.Common.{refl}
use Rattle.diag_report.proofs.laws.worked_scans.Goals as goal

pub returns : goal.returns
returns c = record { history = refl; sum = refl; alarmed = refl }
