use Rattle.std.proofs.Common.{◌≡◌, ◌+◌, drop}
use Rattle.std.specs.List.{prefix_len}
use Rattle.st_tree.specs.Lexes.{is_number_byte}
use Rattle.st_reader.proofs.item.number_length.Given as goal

abbrev pub invariant-loop-at : goal.invariant-loop-at
invariant-loop-at l = l.at + prefix_len is_number_byte (drop l.at l.text) ≡ prefix_len is_number_byte l.text
