use Rattle.std.proofs.Common.{◌≡◌, map, take}
use Rattle.tri_base.specs.declared.point.Point.{Point}
use Rattle.chassis.specs.Points.{inputs_of}
use Rattle.tag_wiring.specs.Inner.Steps.{address_for}
use Rattle.tag_wiring.proofs.tables.input_addresses.Given as goal

abbrev pub invariant-loop-point : goal.invariant-loop-point
invariant-loop-point l = l.addresses.items ≡ map (λ (p : Point). address_for l.layout p.name) (inputs_of (take l.point-index l.points))
