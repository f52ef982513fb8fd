use Rattle.std.proofs.Common.{◌≡◌, ◌+◌, min, take}
use Rattle.st_tree.specs.Numerals.{value, greatest_number}
use Rattle.st_reader.proofs.numeral.value.Given as goal

abbrev pub invariant-loop-byte : goal.invariant-loop-byte
invariant-loop-byte l = l.number ≡ min (value l.base (take l.byte-index l.text)) (greatest_number + 1)
