use Rattle.std.proofs.Common.{◌≡◌, ◌++◌, take}
use Rattle.std.specs.List.{flat_map}
use Rattle.modbus_face.specs.Replies.{reply_of}
use Rattle.modbus_face.specs.ReplyLines.{reply_line}
use Rattle.play_texts.proofs.replies.push_scan.Given as goal

-- the replies so far stand in the text
abbrev pub invariant-loop-request : goal.invariant-loop-request
invariant-loop-request l =
    l.text.list ≡ l.fn.text.list ++ flat_map (λ request. reply_line l.scan
    (reply_of request.list l.script.value.points l.inputs.list l.outputs.list)) (take l.request-index l.request-items)
