use Rattle.std.proofs.Common.{◌≡◌, ◌∷◌, [], ◌++◌, ◌∙◌, OnOk, List, ℕ, subst, ap, codes}
use Rattle.report_lines.specs.Lines.{line}
use Rattle.controller_report.specs.SoloReport.{flag_number}
use Rattle.controller_report.proofs.Written.{five_more, scan_is}
use Rattle.controller_report.proofs.solo.push_scan.Goals as goal

pub returns-clause-text : goal.returns-clause-text
returns-clause-text g c =
    let m = g.E.Engine.meaning (g.E.Engine.points c.args.engine.now) in
    let v = c.args.script.now.value in
    let pieces = five_more c.args.into.now.list _ _ _ _ _ _ _ _ (line (codes "ARITH") (flag_number c.in_ok-outcome.outcome.arith ∷ [])) c.in_ok-push_number.ensures c.in_ok-push_verdict.ensures c.in_ok-push_inputs.ensures c.in_ok-push_outputs.ensures in
    let scan = scan_is m v c.args.scan c.in_ok-outcome.outcome.verdict c.next_scan.new.self.voted c.next_scan.new.self.outputs c.in_ok-outcome.outcome.arith c.in_ok-outcome.ensures.verdict c.in_ok-outcome.ensures.voted c.in_ok-outcome.ensures.outputs c.in_ok-outcome.ensures.flag in
    let whole = pieces ∙ ap (λ (l : List ℕ). c.args.into.now.list ++ l) scan in
    subst (λ (l : List ℕ). OnOk c.push_flag.result (c.push_flag.new.into.list ≡ l)) whole c.push_flag.ensures
