use Rattle.std.proofs.Common.{◌≡◌, ◌≤◌}
use Rattle.tri_base.specs.Rows.{HasRoom}
use Rattle.chassis.specs.Points.{point_limit}
use Rattle.diag_report.specs.Report.{alarmed_scans, output_sum}
use Rattle.play_texts.specs.Inner.Noted.{first_told}
use Rattle.play_texts.specs.Inner.Sums.{IsNear}
use Rattle.play_texts.proofs.summary.write_play_summary.Given as goal

-- the sum and the number of alarmed scans of the scans so far, and how far they go at most
abbrev pub invariant-loop-scan : goal.invariant-loop-scan
invariant-loop-scan g l = record {
  sum : l.sum ≡ output_sum (first_told l.script.value.points l.legs l.scan);
  alarmed : l.alarmed ≡ alarmed_scans (first_told l.script.value.points l.legs l.scan);
  near : IsNear l.scan l.sum;
  few : l.alarmed ≤ l.scan;
  room : HasRoom point_limit l.out;
}
