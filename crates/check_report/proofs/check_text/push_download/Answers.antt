use Rattle.std.proofs.Common.{◌∙◌, ◌++◌, ap, subst, sym}
use Rattle.plant_script.specs.Judging.{Judges}
use Rattle.check_report.proofs.Telling.{refused_line}
use Rattle.check_report.proofs.check_text.push_download.Goals as goal

pub returns-in_ok-push_refused-in-Err-clause-text :
    goal.returns-in_ok-push_refused-in-Err-clause-text
returns-in_ok-push_refused-in-Err-clause-text g c =
    let m = g.E.Engine.meaning (g.E.Engine.points c.args.engine.now) in
    let judged = subst (Judges _ _ _) c.in-Err.is c.in_ok-new.ensures in
    c.in_ok-push_refused-in-Err.ensures
    ∙ ap (λ l. c.args.text.now.list ++ l) (sym (refused_line m c.args.scan _ _ _ _ _ (sym c.in-Some.ensures) c.renames.ensures judged))
