use Rattle.std.proofs.Common.{◌≡◌, length}
use Rattle.tri_base.specs.Inner.TouchedFields.{IsTied}
use Rattle.tri_base.proofs.touched.Touched.clear.Given as goal

abbrev pub invariant-loop-address : goal.invariant-loop-address
invariant-loop-address l = record { held : IsTied l.self-inside; size : length l.self-inside.places.items ≡ l.fn.self.size }

abbrev pub decreases-loop-address : goal.decreases-loop-address
decreases-loop-address l = length l.self-inside.pairs.items
