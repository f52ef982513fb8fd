use Rattle.std.proofs.Common.{◌≡◌, ◌+◌, ◌≤◌, drop}
use Rattle.std.specs.Option.{option_map}
use Rattle.st_tree.specs.Nesting.{too_deep_from}
use Rattle.st_parser.proofs.nesting.first_too_deep.Given as goal

abbrev pub invariant-loop-at : goal.invariant-loop-at
invariant-loop-at l = record {
  rest : option_map (λ n. n + l.at) (too_deep_from l.depth (drop l.at l.tokens)) ≡ too_deep_from 0 l.tokens;
  within : l.depth ≤ 64;
}
