use Rattle.modbus_face.proofs.Framed.{has_its_parts}
use Rattle.modbus_face.proofs.laws.requests_are_their_parts.Goals as goal

pub returns : goal.returns
returns c = has_its_parts
