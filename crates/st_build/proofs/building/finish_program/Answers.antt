use Rattle.st_build.specs.Inner.Scans.{shallow}
use Rattle.st_build.proofs.building.finish_program.Goals as goal

pub compile_code-requires-clause-shallow : goal.compile_code-requires-clause-shallow
compile_code-requires-clause-shallow c = shallow c.args.text.now.list c.args.typed.tree c.requires.has
