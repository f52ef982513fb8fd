use Rattle.std.proofs.Common.{◌≡◌, ◌++◌, take}
use Rattle.modbus_face.specs.Data.{registers_of}
use Rattle.modbus_face.proofs.data.push_registers.Given as goal

-- the registers so far
abbrev pub invariant-loop-value : goal.invariant-loop-value
invariant-loop-value l = l.text.list ≡ l.fn.text.list ++ registers_of (take l.value-index l.values)
