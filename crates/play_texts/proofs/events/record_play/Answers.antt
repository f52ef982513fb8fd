use Rattle.std.proofs.Common.{◌≡◌, ◌∙◌, ◌+◌, ◌≤◌, ℕ, ℤ, List, map, ap, sym, refl, subst, arith}
use Rattle.tri_base.specs.declared.point.Point.{Point}
use Rattle.fault_history.specs.Notes.{NoteData}
use Rattle.diag_report.specs.Report.{ScanTold}
use Rattle.soe_log.specs.Recording.{recorder_after}
use Rattle.play_texts.specs.Events.{shown_of}
use Rattle.play_texts.specs.Inner.Noted.{told_in}
use Rattle.play_texts.proofs.Growing.{told_all}
use Rattle.play_texts.proofs.Recorded.{recorded_on, shown_count, shown_first, takes_a_scan, time_in}
use Rattle.play_texts.proofs.Times.{IsTime, time_back}
use Rattle.play_texts.proofs.events.record_play.Goals as goal

pub note_scan-requires-clause-chassis : goal.note_scan-requires-clause-chassis
note_scan-requires-clause-chassis g c =
    let v = c.args.script.now.value in
    let m = g.E.Engine.meaning v.points in
    let last : c.loop-scan.scan ≤ v.scans = omega (arith, c.scans-scan-end.ensures, c.loop-scan-test.true) in
    let takes =
    takes_a_scan m v v.points c.args.legs.now c.requires c.loop-scan.scan last c.moments-moments.ensures.script.most
    c.chassis.result.now c.chassis.ensures c.points-points.ensures.chassis c.loop-scan.recorder
    c.loop-scan.invariant.recorder in
    takes.points ∙ sym c.chassis-in-loop-scan-2.ensures

pub note_scan-requires-clause-time : goal.note_scan-requires-clause-time
note_scan-requires-clause-time g c =
    let v = c.args.script.now.value in
    let m = g.E.Engine.meaning v.points in
    let last : c.loop-scan.scan ≤ v.scans = omega (arith, c.scans-scan-end.ensures, c.loop-scan-test.true) in
    let takes =
    takes_a_scan m v v.points c.args.legs.now c.requires c.loop-scan.scan last c.moments-moments.ensures.script.most
    c.chassis.result.now c.chassis.ensures c.points-points.ensures.chassis c.loop-scan.recorder
    c.loop-scan.invariant.recorder in
    takes.time

pub note_scan-requires-clause-lost : goal.note_scan-requires-clause-lost
note_scan-requires-clause-lost g c =
    let v = c.args.script.now.value in
    let m = g.E.Engine.meaning v.points in
    let last : c.loop-scan.scan ≤ v.scans = omega (arith, c.scans-scan-end.ensures, c.loop-scan-test.true) in
    let takes =
    takes_a_scan m v v.points c.args.legs.now c.requires c.loop-scan.scan last c.moments-moments.ensures.script.most
    c.chassis.result.now c.chassis.ensures c.points-points.ensures.chassis c.loop-scan.recorder
    c.loop-scan.invariant.recorder in
    takes.lost

pub note_scan-requires-clause-dt : goal.note_scan-requires-clause-dt
note_scan-requires-clause-dt g c =
    let v = c.args.script.now.value in
    let m = g.E.Engine.meaning v.points in
    let n : ℕ = c.loop-scan.scan in
    let dt : ℤ = c.note_of_scan-a.result.now.voted.dt in
    let last : n + 1 ≤ v.scans = omega (arith, c.scans-scan-end.ensures, c.loop-scan-test.true) in
    let is : dt ≡ (told_in v.points c.args.legs.now (n + 1)).a.time =
    ap (λ (note : NoteData). note.time) c.note_of_scan-a.ensures in
    let time : IsTime dt =
    subst (λ (z : ℤ). IsTime z) (sym is)
    (time_in m v v.points c.args.legs.now c.requires (n + 1) (omega arith) last) in
    subst (λ (z : ℤ). IsTime z) (sym (time_back dt time)) time

pub loop-scan-preserved : goal.loop-scan-preserved
loop-scan-preserved g c =
    let v = c.args.script.now.value in
    let m = g.E.Engine.meaning v.points in
    let legs = c.args.legs.now in
    let n : ℕ = c.loop-scan.scan in
    let dt : ℤ = c.note_of_scan-a.result.now.voted.dt in
    let last : n + 1 ≤ v.scans = omega (arith, c.scans-scan-end.ensures, c.loop-scan-test.true) in
    let is : dt ≡ (told_in v.points legs (n + 1)).a.time =
    ap (λ (note : NoteData). note.time) c.note_of_scan-a.ensures in
    let time : IsTime dt =
    subst (λ (z : ℤ). IsTime z) (sym is)
    (time_in m v v.points legs c.requires (n + 1) (omega arith) last) in
    let times = time_back dt time ∙ is in
    let values = ap (λ (note : NoteData). note.values) c.note_of_scan-a.ensures in
    let out =
    c.vote_scan.ensures.outputs
    ∙ ap (λ (ps : List Point). (told_in ps legs (n + 1)).out) c.chassis-in-loop-scan.ensures in
    let chassis : List Point = c.chassis-in-loop-scan-2.result.now in
    let before =
    c.loop-scan.invariant.recorder
    ∙ ap (λ (ps : List Point). recorder_after ps (shown_first v.points legs n))
    (sym c.chassis-in-loop-scan-2.ensures) in
    let count = ap (λ (k : ℕ). k + 1) (sym (shown_count v.points legs n)) in
    record {
      recorder =
          recorded_on v.points chassis legs n c.note_scan.new.self _ c.chassis-in-loop-scan-2.ensures
          (c.note_scan.ensures.play (shown_first v.points legs n) before count)
          (λ i. record { time = times i; inputs = values i; outputs = out i });
      room = c.vote_scan.ensures.room;
    }

pub returns : goal.returns
returns g c =
    let v = c.args.script.now.value in
    let m = g.E.Engine.meaning v.points in
    let end : c.loop-scan.scan ≡ v.scans =
    omega (arith, c.scans-scan-end.ensures, c.loop-scan-test.false, c.loop-scan.auto.scan-end) in
    c.loop-scan.invariant.recorder
    ∙ ap (λ (told : List ScanTold). recorder_after v.points (map shown_of told))
    (told_all m v v.points c.loop-scan.scan c.args.legs.now refl end c.requires)
