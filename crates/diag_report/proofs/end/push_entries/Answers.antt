use Rattle.std.proofs.Common.{sym, ◌∙◌}
use Rattle.diag_report.specs.EndPart.{entry_line}
use Rattle.diag_report.proofs.Pieces.{piece_more}
use Rattle.diag_report.proofs.end.push_entries.Goals as goal

pub loop-place-preserved : goal.loop-place-preserved
loop-place-preserved c =
    piece_more entry_line c.args.history.now c.loop-place.place c.in-Some.entry _ _ _
    (sym c.at.ensures ∙ c.in-Some.is) c.loop-place.invariant c.in_ok-push_entry-in-Some.ensures
