use Rattle.std.proofs.Common.{ℕ, ◌<◌, ◌≤◌}
use Rattle.scan_machine.specs.Inner.FirstFault.{IsLoaded, NamesEmpty}
use Rattle.scan_machine.proofs.depths.first_loaded.Given as goal

abbrev pub invariant-loop-at : goal.invariant-loop-at
invariant-loop-at l = record {
  within : l.first ≤ l.fn.bound;
  loaded : l.first < l.fn.bound → IsLoaded l.code l.first;
  before : (k : ℕ) → k < l.at → NamesEmpty l.code l.first k;
}
