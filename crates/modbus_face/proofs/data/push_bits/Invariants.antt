use Rattle.std.proofs.Common.{◌≡◌, ◌*◌, ◌++◌, map}
use Rattle.std.specs.List.{range_with_len}
use Rattle.modbus_face.specs.Data.{byte_from}
use Rattle.modbus_face.proofs.data.push_bits.Given as goal

-- the bytes so far
abbrev pub invariant-loop-turn : goal.invariant-loop-turn
invariant-loop-turn l = l.text.list ≡ l.fn.text.list ++ map (λ turn. byte_from l.values (8 * turn)) (range_with_len 0 l.turn)
