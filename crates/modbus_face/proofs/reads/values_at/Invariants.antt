use Rattle.std.proofs.Common.{◌≡◌, ◌≤◌, ◌++◌, drop}
use Rattle.modbus_face.specs.Reads.{values_at}
use Rattle.modbus_face.specs.Inner.Sides.{side_of, side_values}
use Rattle.modbus_face.proofs.reads.values_at.Given as goal

-- the values so far and those at the points that are left
abbrev pub invariant-loop-point : goal.invariant-loop-point
invariant-loop-point l = record {
  list : l.seen.list ++ values_at l.kind (side_of l.kind (drop l.point-index l.points)) (drop l.place l.values)
      ≡ side_values l.kind l.points l.values;
  place : l.place ≤ l.point-index;
}
