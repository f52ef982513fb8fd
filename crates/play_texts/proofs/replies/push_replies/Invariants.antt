use Rattle.std.proofs.Common.{◌≡◌, ◌++◌}
use Rattle.std.specs.List.{enumerate_from, flat_map}
use Rattle.tri_base.specs.Rows.{HasRoom}
use Rattle.chassis.specs.Points.{point_limit}
use Rattle.play_texts.specs.Inner.Noted.{first_told}
use Rattle.play_texts.specs.Replies.{scan_replies}
use Rattle.play_texts.proofs.replies.push_replies.Given as goal

-- the replies of the scans so far stand in the text
abbrev pub invariant-loop-scan : goal.invariant-loop-scan
invariant-loop-scan g l =
    let v = l.script.value in
    record {
      text : l.text.list ≡ l.fn.text.list
          ++ flat_map (scan_replies v) (enumerate_from 1 (first_told v.points l.legs l.scan));
      room : HasRoom point_limit l.out;
    }
