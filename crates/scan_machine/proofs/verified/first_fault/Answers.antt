use Rattle.std.proofs.Common.{arith}
use Rattle.scan_machine.proofs.Sound.{sound_depths, loaded_first, verified}
use Rattle.scan_machine.proofs.verified.first_fault.Goals as goal

pub first_loaded-target-requires-clause-depths : goal.first_loaded-target-requires-clause-depths
first_loaded-target-requires-clause-depths c at below = (sound_depths c.args.code.now c.args.words _ c.in-None.ensures) at (omega arith)

pub returns-then-target-code : goal.returns-then-target-code
returns-then-target-code c =
    let t = c.first_loaded-target in let sound = c.in-None.ensures in
    loaded_first c.args.code.now c.args.words t.result (omega arith) (λ at below. sound at (omega arith)) (λ r below. sound t.result (omega arith) r) t.ensures.before (t.ensures.loaded (omega arith))

pub returns-else-target-code : goal.returns-else-target-code
returns-else-target-code c =
    let t = c.first_loaded-target in
    verified c.args.code.now c.args.words c.in-None.ensures (λ target below. t.ensures.before target (omega arith))
