use Rattle.std.proofs.Common.{◌∙◌, map, ap, sym}
use Rattle.soe_log.specs.Recording.{RecorderData}
use Rattle.play_report.specs.LegsReport.{told_of}
use Rattle.play_texts.specs.Events.{shown_of}
use Rattle.play_texts.proofs.Recorded.{recorder_points}
use Rattle.play_texts.proofs.events.write_play_events.Goals as goal

pub write_events-requires : goal.write_events-requires
write_events-requires g c =
    let v = c.args.script.now.value in
    let m = g.E.Engine.meaning v.points in
    record {
      chassis = ap (λ (r : RecorderData). r.points) c.in_ok-recorder.ensures
          ∙ (recorder_points v.points (map shown_of (told_of m v)) ∙ sym c.chassis.ensures);
    }
