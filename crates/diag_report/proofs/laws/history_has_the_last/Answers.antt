use Rattle.std.specs.List.{enumerate_from, flat_map}
use Rattle.fault_history.proofs.Lasting.{keeps_the_last}
use Rattle.diag_report.specs.Report.{judgements_at}
use Rattle.diag_report.proofs.laws.history_has_the_last.Goals as goal

pub returns : goal.returns
returns c = λ scans. keeps_the_last (flat_map judgements_at (enumerate_from 1 scans))
