use Rattle.std.proofs.Common.{◌≡◌, ◌∙◌, ◌+◌, ◌-◌, ℕ, ℤ, refl, sym, subst, arith, rules, w64, to_z, of_z, SFits}
use Rattle.std.proofs.lemmas.Int.{ints, to_z-of_z}
use Rattle.single_controller.specs.Standing.{Stands}
use Rattle.controller_report.specs.Inner.Sums.{IsNear}
use Rattle.controller_report.proofs.Counts.{sum_end, sum_on}
use Rattle.controller_report.proofs.summary.output_sum.Goals as goal

pub start-requires-clause-program : goal.start-requires-clause-program
start-requires-clause-program g c = c.requires.program

pub start-requires-clause-zeros : goal.start-requires-clause-zeros
start-requires-clause-zeros g c = c.requires.zeros

pub start-requires-clause-builds : goal.start-requires-clause-builds
start-requires-clause-builds g c = c.requires.builds

pub loop-scan-init : goal.loop-scan-init
loop-scan-init g c = record {
  sum = refl;
  near = record { low = omega (arith, ints); high = omega (arith, ints) };
  stands = c.in_ok-single.ensures;
}

pub add_scan-requires-clause-stands : goal.add_scan-requires-clause-stands
add_scan-requires-clause-stands g c =
    let m = g.E.Engine.meaning (g.E.Engine.points c.args.engine.now) in
    let same : c.loop-scan.scan ≡ c.loop-scan.scan + 1 - 1 = omega arith in
    subst (λ (n : ℕ). Stands m c.args.script.now.value n c.loop-scan.single) same c.loop-scan.invariant.stands

pub add_scan-requires-clause-scan : goal.add_scan-requires-clause-scan
add_scan-requires-clause-scan g c =
    (omega arith, omega (arith, c.scans-scan-end.ensures, c.loop-scan-test.true, c.loop-scan.auto.scan-end))

pub add_scan-requires-clause-zeros : goal.add_scan-requires-clause-zeros
add_scan-requires-clause-zeros g c = c.requires.zeros

pub add_scan-requires-clause-points : goal.add_scan-requires-clause-points
add_scan-requires-clause-points g c = c.requires.points

pub add_scan-requires-clause-near : goal.add_scan-requires-clause-near
add_scan-requires-clause-near g c =
    let same : c.loop-scan.scan ≡ c.loop-scan.scan + 1 - 1 = omega arith in
    subst (λ (n : ℕ). IsNear n (to_z w64 c.loop-scan.sum-bits)) same c.loop-scan.invariant.near

pub loop-scan-preserved : goal.loop-scan-preserved
loop-scan-preserved g c =
    let m = g.E.Engine.meaning (g.E.Engine.points c.args.engine.now) in
    let n : ℕ = c.loop-scan.scan in
    let fits : SFits w64 c.in_ok-sum.sum = search rules in
    let back : to_z w64 (of_z w64 c.in_ok-sum.sum) ≡ c.in_ok-sum.sum = to_z-of_z w64 c.in_ok-sum.sum fits in
    record {
      sum = back ∙ sum_on m c.args.script.now.value n _ c.in_ok-sum.sum c.loop-scan.invariant.sum c.in_ok-sum.ensures.sum;
      near = subst (λ (z : ℤ). IsNear (n + 1) z) (sym back) c.in_ok-sum.ensures.near;
      stands = c.in_ok-sum.ensures.stands;
    }

pub returns : goal.returns
returns g c =
    let m = g.E.Engine.meaning (g.E.Engine.points c.args.engine.now) in
    let v = c.args.script.now.value in
    let end : c.loop-scan.scan ≡ v.scans = omega (arith, c.scans-scan-end.ensures, c.loop-scan-test.false, c.loop-scan.auto.scan-end) in
    sum_end m v c.loop-scan.scan _ c.loop-scan.invariant.sum end
