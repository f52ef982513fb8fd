use Rattle.std.proofs.Common.{◌≡◌, drop}
use Rattle.chassis.specs.Ranges.{are_within}
use Rattle.chassis.specs.Points.{inputs_of}
use Rattle.leg_packet.proofs.readings.within.Given as goal

abbrev pub invariant-loop-point : goal.invariant-loop-point
invariant-loop-point l = are_within (inputs_of (drop l.point-index l.points)) l.left ≡ are_within (inputs_of l.points) l.values
