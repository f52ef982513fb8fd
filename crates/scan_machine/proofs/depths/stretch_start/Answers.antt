use Rattle.std.proofs.Common.{refl, arith}
use Rattle.scan_machine.proofs.Waiting.{behind_jump}
use Rattle.scan_machine.proofs.depths.stretch_start.Goals as goal

pub returns-else-not-empties_stack-clause-empty : goal.returns-else-not-empties_stack-clause-empty
returns-else-not-empties_stack-clause-empty c =
    behind_jump c.args.code.now c.args.place c.loop-start.start _ c.requires.depths c.requires.place (omega arith) c.loop-start.invariant (c.if-not-empties_stack.ensures.0 refl)
