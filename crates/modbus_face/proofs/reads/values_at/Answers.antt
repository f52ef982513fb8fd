use Rattle.std.proofs.Common.{◌∙◌, ap, arith}
use Rattle.modbus_face.proofs.Steps.{looked_at, passed}
use Rattle.modbus_face.proofs.reads.values_at.Goals.{then-same_side+in_ok-push_at, else-same_side}
use Rattle.modbus_face.proofs.reads.values_at.Goals as goal

pub loop-point-preserved : goal.loop-point-preserved
loop-point-preserved c =
    let i = c.loop-point.point-index in
    let before = c.loop-point.invariant in
    elim c.if-same_side.branch [
      | then-same_side+in_ok-push_at w ↦ record {
        list = looked_at _ _ i _ _ _ _ _ _ _ _ (omega (arith, c.loop-point-test.true)) c.point-item.is
            w.if-same_side.ensures w.value_of.ensures (ap (λ seen. seen.list) w.seen-is ∙ w.in_ok-push_at.ensures) w.place-is before.list;
        place = omega (arith, w.place-is, before.place);
      }
      | else-same_side w ↦ record {
        list = passed _ _ i _ _ _ _ _ _ _ (omega (arith, c.loop-point-test.true)) c.point-item.is
            w.if-same_side.ensures (ap (λ seen. seen.list) w.seen-is) w.place-is before.list;
        place = omega (arith, w.place-is, before.place);
      }
    ]
