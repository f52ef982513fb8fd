use Rattle.std.proofs.Common.{◌≡◌, ◌++◌}
use Rattle.std.specs.List.{flat_map, range_with_len}
use Rattle.single_controller.specs.Standing.{Stands}
use Rattle.controller_report.specs.SoloReport.{scan_of_report}
use Rattle.controller_report.proofs.solo.push_scans.Given as goal

-- the scans so far stand in the text, and the controller stands behind them
abbrev pub invariant-loop-scan : goal.invariant-loop-scan
invariant-loop-scan g l =
    let m = g.E.Engine.meaning (g.E.Engine.points l.engine) in
    record {
      text : l.into.list ≡ l.fn.into.list ++ flat_map (scan_of_report m l.script.value) (range_with_len 1 l.scan);
      stands : Stands m l.script.value l.scan l.single;
    }
