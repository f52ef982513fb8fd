use Rattle.std.proofs.Common.{◌∙◌}
use Rattle.st_types.proofs.Named.{among}
use Rattle.st_types.proofs.assignments.is_counted.Goals as goal

pub returns : goal.returns
returns c = c.contains.ensures.value ∙ among c.args.loops.now c.args.name.now
