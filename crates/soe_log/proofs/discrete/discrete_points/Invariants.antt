use Rattle.std.proofs.Common.{◌≡◌, ◌+◌, length, take}
use Rattle.chassis.specs.Points.{inputs_of, outputs_of}
use Rattle.soe_log.specs.Inner.Found.{points_found}
use Rattle.soe_log.proofs.discrete.discrete_points.Given as goal

-- the discrete ones of the points so far, and how many of them are inputs and outputs
abbrev pub invariant-loop-place : goal.invariant-loop-place
invariant-loop-place l = record {
  found : l.found.items ≡ points_found l.points l.place;
  inputs : l.inputs ≡ length (inputs_of (take l.place l.points));
  outputs : l.outputs ≡ length (outputs_of (take l.place l.points));
  all : l.inputs + l.outputs ≡ l.place;
}
