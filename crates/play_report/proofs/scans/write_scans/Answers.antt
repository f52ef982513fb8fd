use Rattle.std.proofs.Common.{◌≡◌, ◌+◌, ℕ}
use Rattle.tri_base.specs.declared.leg.Leg.{Leg}
use Rattle.tri_base.specs.declared.leg.Triple.{Triple}
use Rattle.tri_base.specs.Legs.{leg_part}
use Rattle.fault_history.specs.Notes.{NoteData, note_data}
use Rattle.play_report.specs.Told.{note_of_scan}
use Rattle.play_report.proofs.Growing.{history_on, text_on, told_same}
use Rattle.play_report.proofs.scans.write_scans.Goals as goal

pub loop-scan-preserved : goal.loop-scan-preserved
loop-scan-preserved g c =
    let f : Leg → ℕ → NoteData = λ leg. note_of_scan (leg_part c.args.legs.now leg).notes in
    let n : ℕ = c.loop-scan.scan in
    let points = c.args.chassis.now in
    let notes : Triple NoteData = record {
      a = note_data c.note_of_scan-a.result.now;
      b = note_data c.note_of_scan-b.result.now;
      c = note_data c.note_of_scan-c.result.now;
    } in
    let same = told_same points (leg_part notes) (λ leg. f leg (n + 1)) c.note_of_scan-a.ensures c.note_of_scan-b.ensures c.note_of_scan-c.ensures in
    record {
      text = text_on points f n c.args.text.now.list c.loop-scan.text.list _ _ c.loop-scan.invariant.text c.in_ok-tell.ensures.text same;
      history = history_on points f n c.loop-scan.teller _ _ c.loop-scan.invariant.history c.in_ok-tell.ensures.history same;
    }
