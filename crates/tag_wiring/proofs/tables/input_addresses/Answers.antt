use Rattle.tri_base.specs.declared.point.Point.{Point}
use Rattle.chassis.specs.Points.{is_input_kind}
use Rattle.tag_wiring.specs.Inner.Steps.{address_for}
use Rattle.tag_wiring.proofs.Looping.{kept_more, kept_whole}
use Rattle.tag_wiring.proofs.tables.input_addresses.Goals as goal

pub loop-point-preserved : goal.loop-point-preserved
loop-point-preserved c =
    kept_more (λ (p : Point). address_for c.args.layout.now p.name) (λ (p : Point). is_input_kind p.kind) c.args.points.now c.loop-point.point-index c.point-item.result
    c.loop-point.addresses.items c.push_input.new.addresses.items c.loop-point-test.true c.point-item.is c.loop-point.invariant c.in_ok-push_input.ensures

pub returns : goal.returns
returns c =
    kept_whole (λ (p : Point). address_for c.args.layout.now p.name) (λ (p : Point). is_input_kind p.kind) c.args.points.now c.loop-point.point-index
    c.loop-point.addresses.items c.loop-point-test.false c.loop-point.invariant
