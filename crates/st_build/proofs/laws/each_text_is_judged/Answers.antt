use Rattle.st_build.specs.Inner.Judged.{program_is}
use Rattle.st_build.proofs.laws.each_text_is_judged.Goals as goal

pub returns : goal.returns
returns c = program_is
