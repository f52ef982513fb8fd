use Rattle.std.proofs.Common.{◌≡◌, ◌++◌, take}
use Rattle.std.specs.List.{flat_map}
use Rattle.tri_base.specs.Rows.{KeepsRoom}
use Rattle.report_lines.specs.Lines.{spaced}
use Rattle.report_lines.proofs.line.push_numbers.Given as goal

-- the numbers so far
abbrev pub invariant-loop-number : goal.invariant-loop-number
invariant-loop-number l = record {
  text : l.text.list ≡ l.fn.text.list ++ flat_map spaced (take l.number-index l.numbers);
  room : KeepsRoom l.fn.text l.text;
}
