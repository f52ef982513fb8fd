use Rattle.std.proofs.Common.{◌∙◌, ◌++◌, [], ◌∷◌, pos, ap, codes}
use Rattle.report_lines.specs.Lines.{line}
use Rattle.check_report.specs.CheckText.{sizes_of}
use Rattle.check_report.specs.Inner.Told.{told}
use Rattle.check_report.proofs.Telling.{four}
use Rattle.check_report.proofs.check_text.write_check.Goals as goal

pub returns : goal.returns
returns g c =
    let m = g.E.Engine.meaning (g.E.Engine.points c.args.engine.now) in
    let v = c.args.script.now.value in
    let sizes = c.sizes.ensures ∙ ap (sizes_of m) c.requires.program in
    four c.args.text.now.list (line (codes "TRICON CHECK") (pos 1 ∷ [])) (line (codes "PROGRAM") (sizes_of m v.text)) (told m v v.scans) (line (codes "END") []) _ _ _ _
    c.in_ok-push_line.ensures.text
    (c.in_ok-push_line-2.ensures.text ∙ ap (λ s. c.push_line.new.text.list ++ line (codes "PROGRAM") s) sizes)
    c.in_ok-push_downloads.ensures
    c.in_ok-push_line-3.ensures.text
