use Rattle.std.proofs.Common.{◌≡◌, ℕ, ◌≤◌, ◌+◌, Some, length}
use Rattle.scan_machine.specs.Rules.{depth_at}
use Rattle.scan_machine.specs.Machine.{after, at_start}
use Rattle.scan_machine.specs.Inner.Waiting.{waiting}
use Rattle.scan_machine.proofs.Turns.{potential}
use Rattle.scan_machine.proofs.running.run_on.Given as goal

abbrev pub invariant-loop-index : goal.invariant-loop-index
invariant-loop-index g l = record {
  ran : (count : ℕ)
      × (after l.code l.dt count (at_start (record { words = l.fn.words; stores = l.fn.touched.pairs }))
      ≡ Some (record { index = l.index; stack = waiting l.places l.depth; words = l.words; flag = l.flag; stores = l.touched.pairs }))
      × (l.steps ≡ l.fn.steps + count);
  within : l.index ≤ length l.code;
  depth : l.depth ≡ depth_at l.code l.index;
  size : l.touched.size ≡ l.fn.touched.size;
}

abbrev pub decreases-loop-index : goal.decreases-loop-index
decreases-loop-index g l = potential l.code l.words l.index
