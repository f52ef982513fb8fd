use Rattle.std.proofs.Common.{◌≡◌, ◌≤◌, ◌-◌, length, take}
use Rattle.tri_io.specs.WholeStreams.{PutsAll}
use Rattle.tri_io.proofs.writing.write_all.Given as goal

-- what was put so far, and the count of failures
abbrev pub invariant-loop-at : goal.invariant-loop-at
invariant-loop-at g l =
    let sink = g.K.Sink in
    record {
      put : PutsAll (sink.taken l.fn.sink) (sink.taken l.sink) (take l.at l.bytes);
      within : l.at ≤ length l.bytes;
      steady : sink.faults l.sink ≡ sink.faults l.fn.sink;
    }

abbrev pub decreases-loop-at : goal.decreases-loop-at
decreases-loop-at g l = length l.bytes - l.at
