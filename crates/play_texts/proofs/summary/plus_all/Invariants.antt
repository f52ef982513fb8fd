use Rattle.std.proofs.Common.{◌≡◌, ◌*◌, ◌≤ℤ◌, ◌+ℤ◌, ◌-ℤ◌, pos, take}
use Rattle.play_texts.specs.Inner.Sums.{plus_all}
use Rattle.play_texts.proofs.summary.plus_all.Given as goal

-- the sum of the counts so far, and how far it lies from the number at most
abbrev pub invariant-loop-count : goal.invariant-loop-count
invariant-loop-count l = record {
  all : l.all ≡ plus_all l.sum (take l.count-index l.counts);
  low : (l.sum -ℤ pos (32768 * l.count-index)) ≤ℤ l.all;
  high : l.all ≤ℤ (l.sum +ℤ pos (32768 * l.count-index));
}
