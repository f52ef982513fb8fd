use Rattle.std.proofs.Common.{◌≡◌, ◌∙◌, ◌+◌, ℕ, ℤ, List, OnOk, ap, sym, refl, subst, arith, rules, w64, to_z, of_z, SFits}
use Rattle.std.proofs.lemmas.Int.{ints, to_z-of_z}
use Rattle.tri_base.specs.declared.point.Point.{Point}
use Rattle.play_texts.specs.Inner.Noted.{told_in}
use Rattle.play_texts.specs.Inner.Sums.{IsNear}
use Rattle.play_texts.proofs.Growing.{alarmed_on, sum_on, summary_is, told_all}
use Rattle.play_texts.proofs.summary.write_play_summary.Goals as goal

pub loop-scan-preserved : goal.loop-scan-preserved
loop-scan-preserved g c =
    let points : List Point = c.args.script.now.value.points in
    let n : ℕ = c.loop-scan.scan in
    let fits : SFits w64 c.plus_all-sum.result = search rules in
    let back : to_z w64 (of_z w64 c.plus_all-sum.result) ≡ c.plus_all-sum.result =
    to_z-of_z w64 c.plus_all-sum.result fits in
    let out : c.items.result.now ≡ (told_in points c.args.legs.now (n + 1)).out =
    c.items.ensures
    ∙ (c.vote_scan.ensures.outputs
    ∙ ap (λ (ps : List Point). (told_in ps c.args.legs.now (n + 1)).out) c.chassis.ensures) in
    record {
      sum = back ∙ sum_on points c.args.legs.now n _ c.plus_all-sum.result c.items.result.now c.loop-scan.invariant.sum
          c.plus_all-sum.ensures.sum out;
      alarmed = alarmed_on points c.chassis-in-loop-scan.result.now c.args.legs.now n c.loop-scan.alarmed
          c.count_alarm-alarmed.result c.loop-scan.invariant.alarmed c.count_alarm-alarmed.ensures.count
          c.chassis-in-loop-scan.ensures;
      near = subst (λ (z : ℤ). IsNear (n + 1) z) (sym back) (record {
        low = omega (arith, ints, c.loop-scan.invariant.near.low, c.plus_all-sum.ensures.low);
        high = omega (arith, ints, c.loop-scan.invariant.near.high, c.plus_all-sum.ensures.high);
      });
      few = omega (arith, c.loop-scan.invariant.few, c.count_alarm-alarmed.ensures.few);
      room = c.vote_scan.ensures.room;
    }

pub returns : goal.returns
returns g c =
    let v = c.args.script.now.value in
    let m = g.E.Engine.meaning v.points in
    let end : c.loop-scan.scan ≡ v.scans =
    omega (arith, c.scans-scan-end.ensures, c.loop-scan-test.false, c.loop-scan.auto.scan-end) in
    subst (λ (l : List ℕ). OnOk c.write_summary.result (c.write_summary.new.text.list ≡ l))
    (summary_is m v c.args.legs.now c.loop-scan.scan _ _ c.loop-scan.alarmed c.args.uncalm c.args.text.now.list
    c.loop-scan.invariant.sum c.loop-scan.invariant.alarmed end c.scans.ensures
    (told_all m v v.points c.loop-scan.scan c.args.legs.now refl end c.requires))
    c.write_summary.ensures.text
