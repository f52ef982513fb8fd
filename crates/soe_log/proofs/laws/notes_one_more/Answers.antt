use Rattle.soe_log.proofs.Growing.{one_scan}
use Rattle.soe_log.proofs.laws.notes_one_more.Goals as goal

pub returns : goal.returns
returns c = one_scan
