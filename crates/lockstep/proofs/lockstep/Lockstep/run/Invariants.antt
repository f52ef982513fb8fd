use Rattle.lockstep.specs.Following.{LeadsTo}
use Rattle.lockstep.proofs.Ending.{all_to_serve}
use Rattle.lockstep.proofs.lockstep.Lockstep.run.Given as goal

-- the steps so far lead to where the legs stand
abbrev pub invariant-steps : goal.invariant-steps
invariant-steps g l = LeadsTo g.E.Engine.meaning l.fn.self l.self

-- the needs that are left
abbrev pub decreases-steps : goal.decreases-steps
decreases-steps g l = all_to_serve l.self
