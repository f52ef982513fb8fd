use Rattle.modbus_face.proofs.Values.{has_each_bit}
use Rattle.modbus_face.proofs.laws.bits_stand_in_order.Goals as goal

pub returns : goal.returns
returns c = has_each_bit
