use Rattle.modbus_face.proofs.Steps.{byte_more}
use Rattle.modbus_face.proofs.data.push_bits.Goals as goal

pub loop-turn-preserved : goal.loop-turn-preserved
loop-turn-preserved c =
    byte_more _ _ _ _ _ _ c.loop-turn.invariant c.byte_from.ensures c.in_ok-push_bytes.ensures.list
