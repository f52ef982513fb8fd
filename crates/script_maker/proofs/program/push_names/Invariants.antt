use Rattle.std.proofs.Common.{◌≡◌, ◌++◌, flat_map, codes}
use Rattle.std.specs.List.{range_with_len}
use Rattle.script_maker.specs.Plants.{numbered}
use Rattle.script_maker.proofs.program.push_names.Given as goal

abbrev pub invariant-loop-number : goal.invariant-loop-number
invariant-loop-number l = l.text.list ≡ (l.fn.text.list ++ numbered l.letter 0) ++ flat_map (λ i. codes ", " ++ numbered l.letter i) (range_with_len 1 l.number)
