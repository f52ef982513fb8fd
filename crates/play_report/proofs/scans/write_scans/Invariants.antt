use Rattle.std.proofs.Common.{◌≡◌, ◌++◌}
use Rattle.tri_base.specs.Legs.{leg_part}
use Rattle.diag_report.specs.Report.{history_of, scan_parts}
use Rattle.play_report.specs.Told.{note_of_scan, told_first}
use Rattle.play_report.proofs.scans.write_scans.Given as goal

-- the scans so far stand in the text and in the history
abbrev pub invariant-loop-scan : goal.invariant-loop-scan
invariant-loop-scan g l = record {
  text : l.text.list ≡ l.fn.text.list ++ scan_parts (told_first l.chassis (λ leg. note_of_scan (leg_part l.legs leg).notes) l.scan);
  history : l.teller ≡ history_of (told_first l.chassis (λ leg. note_of_scan (leg_part l.legs leg).notes) l.scan);
}
