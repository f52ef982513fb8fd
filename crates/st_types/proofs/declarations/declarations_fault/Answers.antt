use Rattle.std.proofs.Common.{◌∙◌}
use Rattle.st_types.proofs.Lists.{part_more}
use Rattle.st_types.proofs.declarations.declarations_fault.Goals as goal
use Rattle.st_tree.specs.Typing.Declarations.{declaration_faults}

pub loop-d-preserved : goal.loop-d-preserved
loop-d-preserved c = c.soonest-fault.ensures ∙ part_more declaration_faults c.args.declarations.now c.loop-d.d-index c.d-item.result c.loop-d.fault c.declaration_fault.result c.loop-d-test.true c.d-item.is c.loop-d.invariant c.declaration_fault.ensures
