use Rattle.std.proofs.Common.{◌≡◌, map, take}
use Rattle.chassis.specs.Points.{outputs_of}
use Rattle.tag_wiring.specs.Inner.Wires.{wire_of}
use Rattle.tag_wiring.proofs.tables.output_wires.Given as goal

abbrev pub invariant-loop-point : goal.invariant-loop-point
invariant-loop-point l = l.wires.items ≡ map (wire_of l.layout) (outputs_of (take l.point-index l.points))
