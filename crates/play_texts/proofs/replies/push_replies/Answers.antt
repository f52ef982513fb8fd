use Rattle.std.proofs.Common.{◌≡◌, ◌∙◌, ◌+◌, ◌++◌, ℕ, List, ap, refl, arith}
use Rattle.std.specs.List.{enumerate_from, flat_map}
use Rattle.tri_base.specs.declared.point.Point.{Point}
use Rattle.fault_history.specs.Notes.{NoteData}
use Rattle.diag_report.specs.Report.{ScanTold}
use Rattle.play_texts.specs.Inner.Noted.{told_in}
use Rattle.play_texts.specs.Replies.{scan_replies}
use Rattle.play_texts.proofs.Growing.{told_all}
use Rattle.play_texts.proofs.Written.{replies_on}
use Rattle.play_texts.proofs.replies.push_replies.Goals as goal

pub loop-scan-preserved : goal.loop-scan-preserved
loop-scan-preserved g c =
    let v = c.args.script.now.value in
    let n : ℕ = c.loop-scan.scan in
    let values = ap (λ (note : NoteData). note.values) c.note_of_scan-a.ensures in
    let out =
    c.vote_scan.ensures.outputs
    ∙ ap (λ (ps : List Point). (told_in ps c.args.legs.now (n + 1)).out) c.chassis.ensures in
    record {
      text = replies_on v v.points c.args.legs.now n c.args.text.now.list c.loop-scan.text.list
          c.push_scan.new.text.list _ _ c.loop-scan.invariant.text c.in_ok-push_scan.ensures values out;
      room = c.vote_scan.ensures.room;
    }

pub returns : goal.returns
returns g c =
    let v = c.args.script.now.value in
    let m = g.E.Engine.meaning v.points in
    let end : c.loop-scan.scan ≡ v.scans =
    omega (arith, c.scans-scan-end.ensures, c.loop-scan-test.false, c.loop-scan.auto.scan-end) in
    c.loop-scan.invariant.text
    ∙ ap (λ (told : List ScanTold). c.args.text.now.list ++ flat_map (scan_replies v) (enumerate_from 1 told))
    (told_all m v v.points c.loop-scan.scan c.args.legs.now refl end c.requires)
