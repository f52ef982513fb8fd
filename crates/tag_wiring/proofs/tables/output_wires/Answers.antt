use Rattle.std.proofs.Common.{not}
use Rattle.tri_base.specs.declared.point.Point.{Point}
use Rattle.chassis.specs.Points.{is_input_kind}
use Rattle.tag_wiring.specs.Inner.Wires.{wire_of}
use Rattle.tag_wiring.proofs.Looping.{kept_more, kept_whole}
use Rattle.tag_wiring.proofs.tables.output_wires.Goals as goal

pub loop-point-preserved : goal.loop-point-preserved
loop-point-preserved c =
    kept_more (wire_of c.args.layout.now) (λ (p : Point). not (is_input_kind p.kind)) c.args.points.now c.loop-point.point-index c.point-item.result
    c.loop-point.wires.items c.push_output.new.wires.items c.loop-point-test.true c.point-item.is c.loop-point.invariant c.in_ok-push_output.ensures

pub returns : goal.returns
returns c =
    kept_whole (wire_of c.args.layout.now) (λ (p : Point). not (is_input_kind p.kind)) c.args.points.now c.loop-point.point-index
    c.loop-point.wires.items c.loop-point-test.false c.loop-point.invariant
