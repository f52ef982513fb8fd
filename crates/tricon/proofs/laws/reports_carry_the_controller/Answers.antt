use Rattle.tricon.proofs.Headline.{reports_carry, summaries_carry}
use Rattle.tricon.proofs.laws.reports_carry_the_controller.Goals as goal

pub returns : goal.returns
returns c = record { reports = reports_carry; sums = summaries_carry }
