use Rattle.std.proofs.Common.{◌≡◌, map}
use Rattle.tri_base.specs.Rows.{HasRoom}
use Rattle.chassis.specs.Points.{point_limit}
use Rattle.soe_log.specs.Recording.{recorder_after}
use Rattle.play_texts.specs.Events.{shown_of}
use Rattle.play_texts.specs.Inner.Noted.{first_told}
use Rattle.play_texts.proofs.events.record_play.Given as goal

-- the recorder of the scans so far
abbrev pub invariant-loop-scan : goal.invariant-loop-scan
invariant-loop-scan g l =
    let points = l.script.value.points in
    record {
      recorder : l.recorder ≡ recorder_after points (map shown_of (first_told points l.legs l.scan));
      room : HasRoom point_limit l.out;
    }
