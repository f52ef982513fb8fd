use Rattle.std.proofs.Common.{◌≡◌, take}
use Rattle.std.specs.List.{flat_map}
use Rattle.leg_parts.specs.LongLines.{long_lines}
use Rattle.leg_parts.proofs.packets.long_packets.Given as goal

-- the rows so far
abbrev pub invariant-loop-at : goal.invariant-loop-at
invariant-loop-at l = l.rows.items ≡ flat_map long_lines (take l.at l.tape.scans)
