use Rattle.std.proofs.Common.{◌∙◌, ◌<◌, refl, arith}
use Rattle.plant_script.proofs.Plays.{first_stands, next_seen, there_a, there_b, there_c}
use Rattle.plant_script.proofs.Quiet.{calm_more, first_loud, never, none_calm, quiet_seen}
use Rattle.plant_script.proofs.uncalm.first_uncalm.Goals as goal

pub scans-init : goal.scans-init
scans-init g c =
    let m = g.E.Engine.meaning (g.E.Engine.points c.args.engine.now) in
    let v = c.args.script.now.value in
    record {
      stands = first_stands m v _ (c.in_ok-program.ensures ∙ c.text.ensures.value) c.requires.builds;
      calm = none_calm m v;
      within = omega arith;
      tapes = c.in_ok-tapes.ensures;
    }

pub next_scan-requires-clause-a : goal.next_scan-requires-clause-a
next_scan-requires-clause-a g c = there_a _ _ c.scans.scan c.scans.invariant.tapes (omega (arith, c.scans-test.true, c.scans-in-scans.ensures))

pub next_scan-requires-clause-b : goal.next_scan-requires-clause-b
next_scan-requires-clause-b g c = there_b _ _ c.scans.scan c.scans.invariant.tapes (omega (arith, c.scans-test.true, c.scans-in-scans.ensures))

pub next_scan-requires-clause-c : goal.next_scan-requires-clause-c
next_scan-requires-clause-c g c = there_c _ _ c.scans.scan c.scans.invariant.tapes (omega (arith, c.scans-test.true, c.scans-in-scans.ensures))

pub is_quiet_scan-requires-clause-a : goal.is_quiet_scan-requires-clause-a
is_quiet_scan-requires-clause-a g c = there_a _ _ c.scans.scan c.scans.invariant.tapes (omega (arith, c.scans-test.true, c.scans-in-scans.ensures))

pub is_quiet_scan-requires-clause-b : goal.is_quiet_scan-requires-clause-b
is_quiet_scan-requires-clause-b g c = there_b _ _ c.scans.scan c.scans.invariant.tapes (omega (arith, c.scans-test.true, c.scans-in-scans.ensures))

pub is_quiet_scan-requires-clause-c : goal.is_quiet_scan-requires-clause-c
is_quiet_scan-requires-clause-c g c = there_c _ _ c.scans.scan c.scans.invariant.tapes (omega (arith, c.scans-test.true, c.scans-in-scans.ensures))

pub returns-then-not-is_quiet_scan : goal.returns-then-not-is_quiet_scan
returns-then-not-is_quiet_scan g c =
    let m = g.E.Engine.meaning (g.E.Engine.points c.args.engine.now) in
    let v = c.args.script.now.value in
    let before : c.scans.scan < v.scans = omega (arith, c.scans-test.true, c.scans-in-scans.ensures) in
    let stands = next_seen m v c.scans.scan _ _ _ _ _ c.scans.invariant.tapes before c.scans.invariant.stands c.in_ok-after.ensures.text c.in_ok-after.ensures.builds c.in_ok-after.ensures.counts in
    let quiet = quiet_seen m v c.scans.scan _ _ c.scans.invariant.tapes before stands.counts_are in
    first_loud m v c.scans.scan c.scans.invariant.calm before (λ q. never (c.if-not-is_quiet_scan.ensures.1 (quiet.1 q)))

pub scans-preserved : goal.scans-preserved
scans-preserved g c =
    let m = g.E.Engine.meaning (g.E.Engine.points c.args.engine.now) in
    let v = c.args.script.now.value in
    let before : c.scans.scan < v.scans = omega (arith, c.scans-test.true, c.scans-in-scans.ensures) in
    let stands = next_seen m v c.scans.scan _ _ _ _ _ c.scans.invariant.tapes before c.scans.invariant.stands c.in_ok-after.ensures.text c.in_ok-after.ensures.builds c.in_ok-after.ensures.counts in
    let quiet = quiet_seen m v c.scans.scan _ _ c.scans.invariant.tapes before stands.counts_are in
    record {
      stands = stands;
      calm = calm_more m v c.scans.scan c.scans.invariant.calm (quiet.0 (c.if-not-is_quiet_scan.ensures.0 refl));
      within = omega (arith, before);
      tapes = c.scans.invariant.tapes;
    }
