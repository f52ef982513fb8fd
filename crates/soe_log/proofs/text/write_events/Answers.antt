use Rattle.std.proofs.Common.{◌≡◌, ◌++◌, OnOk, rules, arith, subst}
use Rattle.std.proofs.lemmas.Grind.{common_steps}
use Rattle.soe_log.specs.EventText.{write_events_of}
use Rattle.soe_log.specs.Recording.{RecorderData}
use Rattle.soe_log.proofs.text.write_events.Goals as goal

pub returns-clause-play : goal.returns-clause-play
returns-clause-play c = λ scans is.
    let text : OnOk c.push_bytes.result
    (c.push_bytes.new.text.list ≡ c.args.text.now.list ++ write_events_of c.args.recorder.now c.args.uncalm) =
    first_of (search rules, grind (arith, common_steps)) in
    subst
    (λ (r : RecorderData). OnOk c.push_bytes.result
    (c.push_bytes.new.text.list ≡ c.args.text.now.list ++ write_events_of r c.args.uncalm))
    is text
