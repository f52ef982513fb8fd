-- Nobody has to believe what stands here: it serves private fields alone.
-- How a chassis is kept: the points, a table of their names in the same order, and how many are inputs and outputs.
use Rattle.std.specs.Prelude.{◌≡◌, map, length}
use Rattle.chassis.specs.Points.{IsChassis, inputs_of, outputs_of}
use Rattle.chassis.specs.declared.table.Chassis.TheInside.{Inside}

pub record IsKept (s : Inside) : Type 0 where
  pub names : s.names.keys ≡ map (λ p. p.name) s.points.items
  pub inputs : s.inputs ≡ length (inputs_of s.points.items)
  pub outputs : s.outputs ≡ length (outputs_of s.points.items)
  pub whole : IsChassis s.points.items
