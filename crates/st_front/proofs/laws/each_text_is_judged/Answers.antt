use Rattle.st_front.proofs.Judges.{front_is}
use Rattle.st_front.proofs.laws.each_text_is_judged.Goals as goal

pub returns : goal.returns
returns c = front_is
