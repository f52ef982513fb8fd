use Rattle.st_parser.proofs.ProgramNesting.{nests_as_its_tokens}
use Rattle.st_parser.proofs.laws.nests_as_its_tokens.Goals as goal

pub returns : goal.returns
returns c = nests_as_its_tokens
