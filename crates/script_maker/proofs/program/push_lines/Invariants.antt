use Rattle.std.proofs.Common.{◌≡◌, ◌++◌, flat_map}
use Rattle.std.specs.List.{range_with_len}
use Rattle.script_lines.specs.Lines.{ended}
use Rattle.script_maker.specs.Programs.{body_line}
use Rattle.script_maker.proofs.program.push_lines.Given as goal

abbrev pub invariant-loop-number : goal.invariant-loop-number
invariant-loop-number l = l.text.list ≡ l.fn.text.list ++ flat_map (λ i. ended (body_line l.before l.between l.behind i)) (range_with_len 0 l.number)
