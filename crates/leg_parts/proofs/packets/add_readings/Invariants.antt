use Rattle.std.proofs.Common.{◌≡◌, ◌+◌, ◌++◌, take}
use Rattle.leg_parts.proofs.packets.add_readings.Given as goal

-- the readings so far
abbrev pub invariant-loop-reading : goal.invariant-loop-reading
invariant-loop-reading l = record {
  list : l.words.list ≡ l.fn.words.list ++ take l.reading-index l.readings;
  room : l.words.spare + l.reading-index ≡ l.fn.words.spare;
}
