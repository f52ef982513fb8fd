use Rattle.st_reader.proofs.Once.{one_lexing}
use Rattle.st_reader.proofs.laws.one_lexing.Goals as goal

pub returns : goal.returns
returns c = one_lexing
