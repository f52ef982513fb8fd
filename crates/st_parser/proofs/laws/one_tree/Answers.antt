use Rattle.st_parser.proofs.ProgramLaws.{one_tree}
use Rattle.st_parser.proofs.laws.one_tree.Goals as goal

pub returns : goal.returns
returns c = one_tree
