use Rattle.std.proofs.Common.{◌≡◌, pos, fold}
use Rattle.std.specs.List.{range_with_len}
use Rattle.single_controller.specs.Controller.{scanned_at}
use Rattle.single_controller.specs.Standing.{Stands}
use Rattle.controller_report.specs.SoloSummary.{plus_all}
use Rattle.controller_report.specs.Inner.Sums.{IsNear}
use Rattle.controller_report.proofs.summary.output_sum.Given as goal

-- the sum of the scans so far, how far it lies from 0 at most, and where the controller stands
abbrev pub invariant-loop-scan : goal.invariant-loop-scan
invariant-loop-scan g l =
    let m = g.E.Engine.meaning (g.E.Engine.points l.engine) in
    record {
      sum : l.sum ≡ fold (λ sum scan. plus_all sum (scanned_at m l.script.value scan).outputs) (pos 0) (range_with_len 1 l.scan);
      near : IsNear l.scan l.sum;
      stands : Stands m l.script.value l.scan l.single;
    }
