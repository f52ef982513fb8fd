use Rattle.std.proofs.Common.{refl}
use Rattle.lockstep.proofs.Steps.{followed}
use Rattle.lockstep.proofs.lockstep.Lockstep.follow.Goals as goal

pub loop-place-preserved : goal.loop-place-preserved
loop-place-preserved g c =
    followed g.E.Engine.meaning c.args.self.now _ c.step.new.self c.args.letters.now c.loop-place.place _ c.step.result c.loop-place-test.true refl c.loop-place.invariant c.step.ensures.stepped c.if-is_err.ensures.negation
