use Rattle.std.proofs.Common.{◌≡◌, ◌++◌, flat_map, take}
use Rattle.script_writer.specs.Canonical.{hex_of}
use Rattle.script_writer.proofs.word.push_hex.Given as goal

abbrev pub invariant-loop-byte : goal.invariant-loop-byte
invariant-loop-byte l = l.text.list ≡ l.fn.text.list ++ flat_map hex_of (take l.byte-index l.bytes)
