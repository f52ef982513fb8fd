use Rattle.std.proofs.Common.{◌≡◌, ◌-◌}
use Rattle.leg_packet.specs.Inner.Behind.{behind}
use Rattle.leg_packet.proofs.pairs.behind_pairs.Given as goal

abbrev pub invariant-loop-done : goal.invariant-loop-done
invariant-loop-done l = behind (l.count - l._done) l.left.from l.below l.left.words.now ≡ behind l.count 0 l.below l.words
