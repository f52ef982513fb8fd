use Rattle.std.proofs.Common.{◌≡◌, ◌∙◌, ◌++◌, OnOk, List, ℕ, ap, sym, subst, append_assoc}
use Rattle.tri_base.specs.declared.leg.Leg.{Leg}
use Rattle.tri_base.specs.declared.leg.Triple.{Triple}
use Rattle.tri_base.specs.declared.point.Point.{Point}
use Rattle.tri_base.specs.Legs.{leg_part}
use Rattle.fault_history.specs.declared.history.Entry.{Entry}
use Rattle.fault_history.specs.Notes.{NoteData}
use Rattle.diag_report.specs.Report.{ScanTold}
use Rattle.majority_laws.specs.Majority.{note_at}
use Rattle.play_report.specs.LegsReport.{endings_of}
use Rattle.play_report.specs.Told.{note_of_scan}
use Rattle.play_report.proofs.Written.{told_is, whole}
use Rattle.play_report.proofs.report.write_report.Goals as goal

pub returns : goal.returns
returns g c =
    let v = c.args.script.now.value in
    let m = g.E.Engine.meaning v.points in
    let told = told_is m v c.chassis.result.now c.scans.result c.args.legs.now c.chassis.ensures c.scans.ensures c.requires.notes in
    subst (λ (l : List ℕ). OnOk c.write_ending.result (c.write_ending.new.text.list ≡ l))
    (whole m v c.args.uncalm c.args.text.now.list c.write_head.new.text.list c.write_scans.new.text.list c.chassis-2.result.now
    c.args.legs.now c.write_scans.new.teller _ c.chassis-2.ensures c.in_ok-write_head.ensures.text c.in_ok-write_scans.ensures.text
    c.in_ok-write_scans.ensures.history told c.requires.ended.tables)
    (c.write_ending.ensures.text (endings_of m v) c.requires.ended.ends)
