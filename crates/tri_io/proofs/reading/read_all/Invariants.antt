use Rattle.std.proofs.Common.{◌≡◌, ◌+◌, length}
use Rattle.tri_io.proofs.Pieces.{Taken}
use Rattle.tri_io.proofs.reading.read_all.Given as goal

-- what was taken so far, how many more the limit allows, and the count of failures
abbrev pub invariant-loop-count : goal.invariant-loop-count
invariant-loop-count g l =
    let source = g.S.Source in
    record {
      taken : Taken (source.left l.fn.source) (source.left l.source) l.text.list;
      allowed : length l.text.list + l.allowed ≡ l.limit;
      steady : source.faults l.source ≡ source.faults l.fn.source;
    }

abbrev pub decreases-loop-count : goal.decreases-loop-count
decreases-loop-count g l = l.allowed
