use Rattle.std.proofs.Common.{◌∙◌, ◌<◌, sym, append-nil, arith}
use Rattle.check_report.proofs.Telling.{first_text, there, tells_more, text_more}
use Rattle.check_report.proofs.check_text.push_downloads.Goals as goal

pub scans-init : goal.scans-init
scans-init g c =
    let m = g.E.Engine.meaning (g.E.Engine.points c.args.engine.now) in
    record {
      stands = c.requires.first ∙ first_text m c.args.script.now.value;
      builds = c.requires.builds;
      told = sym (append-nil c.args.text.now.list);
      within = omega arith;
    }

pub push_download-requires-clause-scan : goal.push_download-requires-clause-scan
push_download-requires-clause-scan g c = there _ _ c.scans.scan c.in_ok-tape.ensures.tape (omega (arith, c.scans-test.true, c.scans-in-scans.ensures))

pub scans-preserved : goal.scans-preserved
scans-preserved g c =
    let m = g.E.Engine.meaning (g.E.Engine.points c.args.engine.now) in
    let v = c.args.script.now.value in
    let before : c.scans.scan < v.scans = omega (arith, c.scans-test.true, c.scans-in-scans.ensures) in
    record {
      stands = text_more m v _ c.scans.scan _ _ c.in_ok-tape.ensures.tape before c.scans.invariant.stands c.in_ok-program.ensures.program;
      builds = c.in_ok-program.ensures.builds;
      told = tells_more m v _ c.scans.scan _ _ _ _ c.in_ok-tape.ensures.tape before c.scans.invariant.stands c.scans.invariant.told c.in_ok-program.ensures.text;
      within = omega (arith, before);
    }
