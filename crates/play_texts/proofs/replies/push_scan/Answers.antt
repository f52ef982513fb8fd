use Rattle.std.proofs.Common.{ℕ, List, arith}
use Rattle.modbus_face.specs.Replies.{reply_of}
use Rattle.modbus_face.specs.ReplyLines.{reply_line}
use Rattle.play_texts.specs.Replies.{asks_of}
use Rattle.play_texts.proofs.Written.{all_replied}
use Rattle.play_texts.proofs.replies.push_scan.Goals as goal

pub returns : goal.returns
returns c =
    let v = c.args.script.now.value in
    let reply : List ℕ → List ℕ =
    λ request. reply_line c.args.scan (reply_of request v.points c.args.inputs.now.list c.args.outputs.now.list) in
    all_replied reply (asks_of v c.args.scan) c.asks-request-items.result.now c.loop-request.request-index
    c.args.text.now.list c.loop-request.text.list c.asks-request-items.ensures
    (omega (arith, c.loop-request-test.false)) c.loop-request.invariant
