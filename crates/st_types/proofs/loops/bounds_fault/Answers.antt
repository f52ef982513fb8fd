use Rattle.std.proofs.Common.{◌++◌, ◌∙◌}
use Rattle.st_types.proofs.Lists.{two_parts}
use Rattle.st_types.proofs.loops.bounds_fault.Goals as goal
use Rattle.st_tree.specs.Typing.Literals.{range_faults}
use Rattle.st_tree.specs.Typing.Statements.{step_faults}

pub returns : goal.returns
returns c =
    let k = c.args.kind in
    c.soonest.ensures ∙ two_parts (range_faults k c.args.first ++ range_faults k c.args.last) (step_faults k c.args.step) _ _
    (c.soonest-ends.ensures ∙ two_parts (range_faults k c.args.first) (range_faults k c.args.last) _ _ c.range_fault.ensures c.range_fault-2.ensures) c.step_fault.ensures
