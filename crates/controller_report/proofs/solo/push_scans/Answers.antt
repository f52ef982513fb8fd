use Rattle.controller_report.specs.SoloReport.{scan_of_report}
use Rattle.controller_report.proofs.Written.{scan_written}
use Rattle.controller_report.proofs.solo.push_scans.Goals as goal

pub loop-scan-preserved : goal.loop-scan-preserved
loop-scan-preserved g c =
    let m = g.E.Engine.meaning (g.E.Engine.points c.args.engine.now) in
    record {
      text = scan_written c.args.into.now.list c.loop-scan.into.list c.push_scan.new.into.list (scan_of_report m c.args.script.now.value) c.loop-scan.scan c.loop-scan.invariant.text c.in_ok-push_scan.ensures.text;
      stands = c.in_ok-push_scan.ensures.stands;
    }
