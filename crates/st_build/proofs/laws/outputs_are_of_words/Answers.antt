use Rattle.std.proofs.Common.{sym}
use Rattle.st_build.specs.Inner.Scans.{outputs_taken}
use Rattle.st_build.proofs.laws.outputs_are_of_words.Goals as goal

pub returns : goal.returns
returns c = λ points text tree words inputs dt h count. sym (outputs_taken points text tree words inputs dt h.is count)
