use Rattle.std.proofs.Common.{◌≡◌, ◌≤◌, ◌∙◌, List, ℤ, length, sym, subst, ap, arith, rules, w64, SFits}
use Rattle.std.specs.List.{All}
use Rattle.std.proofs.lemmas.Int.{to_z-of_z}
use Rattle.std.proofs.lemmas.Slice.Zip.{AllZip-long}
use Rattle.tri_base.specs.declared.point.Point.{Point}
use Rattle.chassis.specs.Points.{outputs_of}
use Rattle.chassis.specs.Ranges.{Fits, IsWithin}
use Rattle.single_controller.specs.Controller.{scanned_at}
use Rattle.controller_report.specs.Inner.Sums.{IsCount}
use Rattle.controller_report.proofs.Counts.{outputs_are_counts}
use Rattle.controller_report.proofs.summary.add_scan.Goals as goal

pub plus_all-requires-clause-counts : goal.plus_all-requires-clause-counts
plus_all-requires-clause-counts g c =
    let points = c.args.script.now.value.points in
    let fit : All Fits points = subst (λ (ps : List Point). All Fits ps) c.chassis.ensures c.points-points.ensures.chassis.fit in
    subst (λ (l : List ℤ). All IsCount l) (sym c.outputs.ensures) (outputs_are_counts points c.next_scan.new.self.outputs fit c.in_ok-_outcome.ensures.within)

pub plus_all-requires-clause-few : goal.plus_all-requires-clause-few
plus_all-requires-clause-few g c =
    let points = c.args.script.now.value.points in
    let few : length (outputs_of points) ≤ 256 =
    omega (arith, c.points-points.ensures.chassis.few_outputs, ap (λ (ps : List Point). length (outputs_of ps)) c.chassis.ensures) in
    omega (arith, few, ap (λ (l : List ℤ). length l) c.outputs.ensures, AllZip-long IsWithin (outputs_of points) c.next_scan.new.self.outputs c.in_ok-_outcome.ensures.within)

pub returns-clause-sum : goal.returns-clause-sum
returns-clause-sum g c =
    let m = g.E.Engine.meaning (g.E.Engine.points c.args.engine.now) in
    let fits : SFits w64 c.plus_all.result = search rules in
    let back = to_z-of_z w64 c.plus_all.result fits in
    let sum_back = to_z-of_z w64 c.args.sum c.ranges.sum in
    let outputs : c.outputs.result.now ≡ (scanned_at m c.args.script.now.value c.args.scan).outputs = c.outputs.ensures ∙ c.in_ok-_outcome.ensures.outputs in
    let sum = c.plus_all.ensures.sum in
    cc (back, sum_back, outputs, sum)
