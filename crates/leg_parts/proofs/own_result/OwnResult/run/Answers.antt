use Rattle.std.proofs.Common.{◌≡◌, rules}
use Rattle.leg_laws.specs.States.{Run}
use Rattle.leg_laws.specs.HalfScans.{run_on}
use Rattle.leg_parts.specs.Results.{voted_of}
use Rattle.leg_parts.proofs.Sheets.{told_result}
use Rattle.leg_parts.proofs.own_result.OwnResult.run.Goals as goal

pub returns-clause-result : goal.returns-clause-result
returns-clause-result g c =
    let m = g.E.Engine.meaning (g.E.Engine.points c.args.engine.now) in
    let run : Run = record {
      text = g.E.Engine.text_of c.args.program.now;
      words = c.args.words.now.list;
      epoch = c.args.epoch;
      turn = c.args.turn;
    } in
    let s = c.scan-self-inside in
    let words : s.new.words.list ≡ (run_on m run (voted_of c.args.voted.now)).words = search rules in
    let outputs : s.new.outputs.list ≡ (run_on m run (voted_of c.args.voted.now)).outputs = search rules in
    let flag : s.result ≡ (run_on m run (voted_of c.args.voted.now)).flag = search rules in
    told_result m run (voted_of c.args.voted.now) c.tell_changes.new.sheet _ _ _ _ s.result c.tell_changes.ensures.told
    c.text.ensures s.ensures.restores words outputs flag
