use Rattle.std.proofs.Common.{take}
use Rattle.leg_laws.specs.ExchangeSteps.{Reaches}
use Rattle.lockstep.proofs.lockstep.Lockstep.follow.Given as goal

-- the letters so far were stepped
abbrev pub invariant-loop-place : goal.invariant-loop-place
invariant-loop-place g l = Reaches g.E.Engine.meaning l.fn.self (take l.place l.letters) l.self
