use Rattle.std.proofs.Common.{◌≡◌, length}
use Rattle.chassis.specs.Points.{inputs_of}
use Rattle.input_legs.proofs.tests.marks_of_c.Given as goal

abbrev pub invariant-loop-scan : goal.invariant-loop-scan
invariant-loop-scan l = length l.marks ≡ length (inputs_of l.chassis)
