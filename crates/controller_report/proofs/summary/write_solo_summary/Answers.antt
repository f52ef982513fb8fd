use Rattle.std.proofs.Common.{◌≡◌, ◌∷◌, [], ◌++◌, ◌∙◌, OnOk, List, ℕ, subst, ap, codes, pos}
use Rattle.report_lines.specs.Lines.{line}
use Rattle.controller_report.proofs.Written.{four_more}
use Rattle.controller_report.proofs.summary.write_solo_summary.Goals as goal

pub returns : goal.returns
returns g c =
    let scans = c.in_ok-push_scans.ensures ∙ ap (λ (n : ℕ). c.push_led_line.new.text.list ++ line (codes "SCANS") (pos n ∷ [])) c.scans.ensures in
    let whole = four_more c.args.into.now.list _ _ _ _ _ _ (line (codes "END") []) c.in_ok-push_led_line.ensures.text scans c.in_ok-push_sum.ensures in
    subst (λ (l : List ℕ). OnOk c.push_line.result (c.push_line.new.text.list ≡ l)) whole c.push_line.ensures.text
