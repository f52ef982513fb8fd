use Rattle.leg_laws.proofs.Starving.{goes_on_starved, stays_starved}
use Rattle.leg_laws.proofs.laws.starved_legs_go_on.Goals as goal

pub returns : goal.returns
returns c = record { needs = goes_on_starved; steps = stays_starved }
