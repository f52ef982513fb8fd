use Rattle.std.proofs.Common.{arith}
use Rattle.std.proofs.lemmas.Grind.{common_steps}
use Rattle.soe_log.proofs.Finding.{few_found}
use Rattle.soe_log.proofs.recorder.Recorder.new.Goals as goal

pub invariant_of-result : goal.invariant_of-result
invariant_of-result c =
    let few = few_found c.args.chassis.now c.points.ensures.chassis in
    grind (arith, common_steps)
