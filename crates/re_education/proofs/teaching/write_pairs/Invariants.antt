use Rattle.std.proofs.Common.{◌≡◌, ◌+◌, ◌-◌, ◌≤◌, length, drop}
use Rattle.memory_compare.specs.Changes.{applied}
use Rattle.re_education.specs.Inner.Shown.{ArePairs, pairs_in}
use Rattle.re_education.proofs.teaching.write_pairs.Given as goal

abbrev pub invariant-loop-at : goal.invariant-loop-at
invariant-loop-at l = record {
  size : length l.image ≡ l.behind + l.below;
  within : l.at ≤ length l.pairs;
  pairs : ArePairs l.below (drop l.at l.pairs);
  same : applied l.behind (pairs_in (drop l.at l.pairs)) l.image ≡ applied l.behind (pairs_in l.pairs) l.fn.image;
}

abbrev pub decreases-loop-at : goal.decreases-loop-at
decreases-loop-at l = length l.pairs - l.at
