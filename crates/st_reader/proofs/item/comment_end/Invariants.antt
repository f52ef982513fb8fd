use Rattle.std.proofs.Common.{◌≡◌, ◌+◌, drop}
use Rattle.std.specs.Option.{option_map}
use Rattle.st_tree.specs.Lexes.{comment_end}
use Rattle.st_reader.proofs.item.comment_end.Given as goal

abbrev pub invariant-loop-at : goal.invariant-loop-at
invariant-loop-at l = option_map (λ n. n + l.at) (comment_end (drop l.at l.text)) ≡ comment_end l.text
