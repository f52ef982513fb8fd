use Rattle.std.proofs.Common.{◌≡◌, ◌++◌, replicate}
use Rattle.tag_layout.proofs.first.push_times.Given as goal

abbrev pub invariant-loop-turn : goal.invariant-loop-turn
invariant-loop-turn l = l.words.list ≡ l.fn.words.list ++ replicate l._turn l.number
