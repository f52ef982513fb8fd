use Rattle.std.proofs.Common.{◌≡◌, ◌+◌, ◌++◌, length, map, drop}
use Rattle.chassis.specs.Points.{outputs_of}
use Rattle.tag_wiring.specs.PointWords.{output_in}
use Rattle.tag_wiring.proofs.by_name.take_points.Given as goal

-- the values so far and those of the points that are left
abbrev pub invariant-loop-point : goal.invariant-loop-point
invariant-loop-point l = record {
  list : l.outputs.list ++ map (output_in l.layout l.words) (outputs_of (drop l.point-index l.points)) ≡ l.fn.outputs.list ++ map (output_in l.layout l.words) (outputs_of l.points);
  room : l.outputs.spare + length (outputs_of l.points) ≡ l.fn.outputs.spare + length (outputs_of (drop l.point-index l.points));
}
