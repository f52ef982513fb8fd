use Rattle.play_report.specs.Tables.{tables_in}
use Rattle.play_report.proofs.Growing.{marks_next}
use Rattle.play_report.proofs.marks.mark_list.Goals as goal

pub loop-input-preserved : goal.loop-input-preserved
loop-input-preserved g c =
    marks_next (tables_in c.args.legs.now) c.loop-input.input c.loop-input.marks.items _ c.loop-input.invariant c.in_ok-push_marks.ensures
