use Rattle.std.proofs.Common.{◌∙◌, sym, ap, arith, rules}
use Rattle.script_text.specs.LegScans.{LegScan}
use Rattle.script_text.specs.Inner.LegParts.{RowValue, row_until}
use Rattle.script_text.proofs.Tapes.{seen}
use Rattle.script_text.proofs.tape.Tape.time.Goals as goal

pub returns : goal.returns
returns c =
    let kept = c.self.inside in
    let row = c.behind-self.view_is ∙ (c.find_row.ensures ∙ ap (row_until kept.start c.args.scan) c.as_slice.ensures.value) in
    let same = ap (λ (r : RowValue). r.time) row ∙ sym (ap (λ (l : LegScan). l.time) (seen c.args.self.now kept.scans kept.start kept.rows.items kept.lines.items c.args.scan c.self.view_is c.requires)) in
    first_of (search rules, grind arith)
