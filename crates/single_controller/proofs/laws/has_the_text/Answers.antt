use Rattle.single_controller.proofs.Texts.{has_text}
use Rattle.single_controller.proofs.laws.has_the_text.Goals as goal

pub returns : goal.returns
returns c = has_text
