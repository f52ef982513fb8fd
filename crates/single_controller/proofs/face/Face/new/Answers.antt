use Rattle.std.proofs.Common.{◌≤◌, List, length, arith, ap}
use Rattle.tri_base.specs.declared.point.Point.{Point}
use Rattle.chassis.specs.Points.{inputs_of, point_limit}
use Rattle.single_controller.proofs.Faces.{few_of}
use Rattle.single_controller.proofs.face.Face.new.Goals as goal

pub invariant_of-result : goal.invariant_of-result
invariant_of-result c =
    let points = c.args.script.now.value.points in
    let few : length (inputs_of points) ≤ point_limit =
    omega (arith, c.points-points.ensures.chassis.few_inputs, ap (λ (ps : List Point). length (inputs_of ps)) c.chassis.ensures) in
    record {
      few = few_of points c.in_ok-tape.tape.scans few c.in_ok-tape.ensures.readable;
      room = omega (arith, c.in_ok-reserve.ensures.room);
    }
