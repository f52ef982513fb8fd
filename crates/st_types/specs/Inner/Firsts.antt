-- Nobody has to believe what stands here: it serves private functions alone.
-- The first fault of two parts of a program.
use Rattle.std.specs.Prelude.{Option, Some, None}
use Rattle.tri_base.specs.declared.faults.TypeFault.{TypeFault}
use Rattle.st_tree.specs.Typing.Faults.{sooner}

-- the first of the first faults of two parts
abbrev pub soonest : Option TypeFault → Option TypeFault → Option TypeFault
soonest (Some f) (Some g) = Some (sooner f g)
soonest (Some f) None = Some f
soonest None g = g
