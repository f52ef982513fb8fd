use Rattle.std.proofs.Common.{◌≡◌, ◌+◌, ◌++◌, length, drop}
use Rattle.chassis.specs.Points.{outputs_of}
use Rattle.engine_face.specs.Counting.{zeros_at}
use Rattle.engine_face.proofs.counting.add_zeros.Given as goal

-- The zeros so far and those of the points that are left.
abbrev pub invariant-loop-point : goal.invariant-loop-point
invariant-loop-point l = record {
  list : l.outputs.list ++ zeros_at (drop l.point-index l.points) ≡ l.fn.outputs.list ++ zeros_at l.points;
  room : l.outputs.spare + length (outputs_of l.points) ≡ l.fn.outputs.spare + length (outputs_of (drop l.point-index l.points));
}
