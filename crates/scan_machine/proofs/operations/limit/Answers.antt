use Rattle.std.proofs.Common.{arith}
use Rattle.std.proofs.lemmas.Int.{ints, clamps}
use Rattle.scan_machine.proofs.operations.limit.Goals as goal

pub push-requires-clause-operand : goal.push-requires-clause-operand
push-requires-clause-operand c =
    let m = c.max.ensures.value in let n = c.min.ensures.value in
    (omega (arith, ints, clamps), omega (arith, ints, clamps))
