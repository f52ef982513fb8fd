use Rattle.std.proofs.Common.{◌≡◌, ◌+◌, drop}
use Rattle.scan_machine.specs.Machine.{noted_all}
use Rattle.scan_machine.proofs.memory.note_all.Given as goal

-- what is left to note gives what the whole gives
abbrev pub invariant-loop-n : goal.invariant-loop-n
invariant-loop-n l = record {
  stores : noted_all (l.address + l.n) (drop l.n l.fields) l.touched.pairs ≡ noted_all l.address l.fields l.fn.touched.pairs;
  size : l.touched.size ≡ l.fn.touched.size;
}
