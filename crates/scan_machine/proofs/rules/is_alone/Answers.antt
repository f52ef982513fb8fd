use Rattle.scan_machine.proofs.Alone.{alone_more}
use Rattle.scan_machine.proofs.rules.is_alone.Goals as goal
use Rattle.std.proofs.Common.{refl, arith}

pub loop-at-preserved : goal.loop-at-preserved
loop-at-preserved c = alone_more c.args.code.now c.args.address c.args.back c.loop-at.at _ c.loop-at.invariant (λ h. let e = c.if-stores_to.ensures.1 h in cc) (c.if-not-starts_from.ensures.0 refl)

pub returns : goal.returns
returns c = ((λ t at instr from below is. c.loop-at.invariant at instr from (omega arith) is), (λ h. refl))
