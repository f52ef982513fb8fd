use Rattle.std.proofs.Common.{◌≡◌, [], ◌++◌, ◌∙◌, OnOk, List, ℕ, subst, ap, codes}
use Rattle.report_lines.specs.Lines.{line}
use Rattle.single_controller.specs.Controller.{Controller}
use Rattle.controller_report.specs.SoloReport.{final_line}
use Rattle.controller_report.proofs.Written.{four_more}
use Rattle.controller_report.proofs.solo.write_solo.Goals as goal

pub returns : goal.returns
returns g c =
    let final = c.in_ok-push_final.ensures ∙ ap (λ (k : Controller). c.push_scans.new.into.list ++ final_line k) c.in_ok-push_scans.ensures.stands.controller in
    let whole = four_more c.args.into.now.list _ _ _ _ _ _ (line (codes "END") []) c.in_ok-push_led_line.ensures.text c.in_ok-push_scans.ensures.text final in
    subst (λ (l : List ℕ). OnOk c.push_line.result (c.push_line.new.text.list ≡ l)) whole c.push_line.ensures.text
