use Rattle.std.proofs.Common.{◌≡◌, ◌++◌, map, flat_map, take}
use Rattle.std.specs.Fmt.{signed_decimal}
use Rattle.script_writer.specs.Canonical.{behind_space}
use Rattle.script_writer.proofs.word.push_numbers.Given as goal

abbrev pub invariant-loop-number : goal.invariant-loop-number
invariant-loop-number l = l.text.list ≡ l.fn.text.list ++ flat_map behind_space (map signed_decimal (take l.number-index l.numbers))
