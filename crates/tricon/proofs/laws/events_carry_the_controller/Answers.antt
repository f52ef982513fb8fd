use Rattle.tricon.proofs.Shown.{calm_events_carry, events_carry}
use Rattle.tricon.proofs.laws.events_carry_the_controller.Goals as goal

pub returns : goal.returns
returns c = record { before_uncalm = events_carry; all_calm = calm_events_carry }
