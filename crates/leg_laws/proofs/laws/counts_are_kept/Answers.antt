use Rattle.leg_laws.proofs.Reached.{start_counts}
use Rattle.leg_laws.proofs.Counts.{step_counts}
use Rattle.leg_laws.proofs.Stuck.{none_stuck}
use Rattle.leg_laws.proofs.laws.counts_are_kept.Goals as goal

pub returns : goal.returns
returns c = record { start = start_counts; step = step_counts; stuck = none_stuck }
