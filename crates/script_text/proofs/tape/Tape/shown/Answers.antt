use Rattle.std.proofs.Common.{◌∙◌, sym, ap}
use Rattle.script_text.specs.LegScans.{shown_on}
use Rattle.script_text.specs.Inner.LegParts.{row_until}
use Rattle.script_text.proofs.Tapes.{lines_seen, shown_joined, none_shown}
use Rattle.script_text.proofs.tape.Tape.shown.Goals as goal

pub returns-in-Some : goal.returns-in-Some
returns-in-Some c =
    let kept = c.self.inside in
    let row = row_until kept.start c.args.scan kept.rows.items in
    let scan = lines_seen c.args.self.now kept.scans kept.start kept.rows.items kept.lines.items c.as_slice.result.now c.args.scan c.in-Some.lines.now c.self.view_is c.requires c.as_slice.ensures.value c.in-Some.ensures in
    c.shown.ensures ∙ (shown_joined c.args.side row c.in-Some.lines.now ∙ sym (ap (shown_on c.args.side) scan))

pub returns-in-None : goal.returns-in-None
returns-in-None c =
    let kept = c.self.inside in
    let row = row_until kept.start c.args.scan kept.rows.items in
    let scan = lines_seen c.args.self.now kept.scans kept.start kept.rows.items kept.lines.items c.as_slice.result.now c.args.scan _ c.self.view_is c.requires c.as_slice.ensures.value c.in-None.ensures in
    none_shown c.args.side row c.args.scan ∙ sym (ap (shown_on c.args.side) scan)
