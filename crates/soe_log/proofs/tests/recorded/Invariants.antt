use Rattle.std.proofs.Common.{◌≡◌, ◌≤◌, ◌*◌, ◌≤ℤ◌, pos}
use Rattle.soe_log.proofs.tests.recorded.Given as goal

-- the recorder takes one scan more
abbrev pub invariant-loop-scan : goal.invariant-loop-scan
invariant-loop-scan l = record {
  points : l.recorder.points ≡ l.chassis;
  time : l.recorder.time ≤ℤ pos (100 * l.scan);
  lost : l.recorder.lost ≤ 512 * l.scan;
}
