use Rattle.tricon.proofs.Shown.{calm_replies_carry, replies_carry}
use Rattle.tricon.proofs.laws.replies_carry_the_controller.Goals as goal

pub returns : goal.returns
returns c = record { before_uncalm = replies_carry; all_calm = calm_replies_carry }
