use Rattle.std.proofs.Common.{◌≡◌, ◌+◌, ◌++◌, take, map, pos}
use Rattle.memory_compare.proofs.windows.add_bytes.Given as goal

abbrev pub invariant-loop-byte : goal.invariant-loop-byte
invariant-loop-byte l = record {
  list : l.into.list ≡ l.fn.into.list ++ map pos (take l.byte-index l.bytes);
  room : l.into.spare + l.byte-index ≡ l.fn.into.spare;
}
