use Rattle.std.proofs.Common.{sym, ◌∙◌, true≢false, rules, ◌<◌, length}
use Rattle.leg_workers.proofs.Rows.{kept_set, done_set, stands_at}
use Rattle.leg_workers.proofs.working.take_turns.Goals.{then-serve_pair, else-serve_pair}
use Rattle.leg_workers.proofs.working.take_turns.Goals as goal

pub loop-i-preserved : goal.loop-i-preserved
loop-i-preserved g c =
    let row = c.loop-i.legs.items in
    let lt : c.loop-i.i < length row = search rules in
    let at = stands_at row c.loop-i.i c.index_mut.result.now lt c.index_mut.ensures.value in
    record {
      kept =
          kept_set g.E.Engine.meaning _ row c.loop-i.i c.index_mut.result.now c.serve_pair.new.pair
          c.loop-i.invariant.kept at c.serve_pair.ensures.kept;
      done = elim c.if-serve_pair.branch [
        | then-serve_pair w ↦ λ no. absurd (true≢false (sym w.served-is ∙ no))
        | else-serve_pair w ↦
            λ no.
            done_set row c.loop-i.i c.serve_pair.new.pair (c.loop-i.invariant.done (sym w.served-is ∙ no))
            (c.serve_pair.ensures.done w.if-serve_pair.false)
      ];
    }
