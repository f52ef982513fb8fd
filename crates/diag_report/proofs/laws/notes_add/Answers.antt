use Rattle.diag_report.proofs.Growing.{notes_add}
use Rattle.diag_report.proofs.laws.notes_add.Goals as goal

pub returns : goal.returns
returns c = notes_add
