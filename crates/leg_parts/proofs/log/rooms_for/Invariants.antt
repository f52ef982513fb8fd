use Rattle.std.proofs.Common.{◌≡◌, map, take}
use Rattle.leg_parts.specs.Logs.{room_of}
use Rattle.leg_parts.proofs.log.rooms_for.Given as goal

-- the rooms so far
abbrev pub invariant-loop-at : goal.invariant-loop-at
invariant-loop-at l = l.rooms.items ≡ map (room_of l.inputs l.outputs) (take l.at l.tape.scans)
