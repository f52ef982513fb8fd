use Rattle.modbus_face.proofs.Values.{reads_back}
use Rattle.modbus_face.proofs.laws.registers_read_back.Goals as goal

pub returns : goal.returns
returns c = reads_back
