use Rattle.modbus_face.proofs.Framed.{has_framed_reply}
use Rattle.modbus_face.proofs.laws.replies_are_framed.Goals as goal

pub returns : goal.returns
returns c = has_framed_reply
