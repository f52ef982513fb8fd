use Rattle.std.proofs.Common.{◌∙◌, sym, ap, option_map}
use Rattle.tri_base.specs.Downloads.{Download}
use Rattle.script_text.specs.LegScans.{LegScan}
use Rattle.script_text.specs.Inner.LegParts.{row_until}
use Rattle.script_text.proofs.Tapes.{lines_seen, text_joined}
use Rattle.script_text.proofs.tape.Tape.download.Goals as goal

pub returns-in-Some : goal.returns-in-Some
returns-in-Some c =
    let kept = c.self.inside in
    let row = row_until kept.start c.args.scan kept.rows.items in
    let scan = lines_seen c.args.self.now kept.scans kept.start kept.rows.items kept.lines.items c.as_slice.result.now c.args.scan c.in-Some.lines.now c.self.view_is c.requires c.as_slice.ensures.value c.in-Some.ensures in
    c.download.ensures ∙ (text_joined c.in-Some.lines.now.text c.in-Some.lines.now.renames ∙ sym (ap (λ (s : LegScan). option_map (λ (d : Download). d.text) s.download) scan))

pub returns-in-None : goal.returns-in-None
returns-in-None c =
    let kept = c.self.inside in
    let row = row_until kept.start c.args.scan kept.rows.items in
    let scan = lines_seen c.args.self.now kept.scans kept.start kept.rows.items kept.lines.items c.as_slice.result.now c.args.scan _ c.self.view_is c.requires c.as_slice.ensures.value c.in-None.ensures in
    sym (ap (λ (s : LegScan). option_map (λ (d : Download). d.text) s.download) scan)
