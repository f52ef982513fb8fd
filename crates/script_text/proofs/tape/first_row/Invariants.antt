use Rattle.std.proofs.Common.{◌≡◌, ◌++◌, length, map, pos}
use Rattle.chassis.specs.Points.{inputs_of}
use Rattle.script_text.proofs.tape.first_row.Given as goal

-- the zeros so far, and those of the points that are left
abbrev pub invariant-points : goal.invariant-points
invariant-points l = l.readings.items ++ map (λ p. pos 0) (inputs_of l.rest) ≡ map (λ p. pos 0) (inputs_of l.points)

abbrev pub decreases-points : goal.decreases-points
decreases-points l = length l.rest
