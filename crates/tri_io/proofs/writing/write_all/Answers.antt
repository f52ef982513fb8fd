use Rattle.std.proofs.Common.{◌∙◌}
use Rattle.tri_io.proofs.Pieces.{put_more, put_within}
use Rattle.tri_io.proofs.writing.write_all.Goals as goal

pub loop-at-preserved : goal.loop-at-preserved
loop-at-preserved g c =
    let taken = g.K.Sink.taken in
    record {
      put = put_more (taken c.args.sink.now) (taken c.loop-at.sink) (taken c.put.new.self) c.args.bytes.now c.loop-at.at c.min-piece.result c.in_ok-at.field-0 c.loop-at.invariant.put c.in_ok-at.ensures.taken c.in_ok-at.ensures.within;
      within = put_within c.args.bytes.now c.loop-at.at c.min-piece.result c.in_ok-at.field-0 c.loop-at.invariant.within c.in_ok-at.ensures.within;
      steady = c.in_ok-at.ensures.cause.steady ∙ c.loop-at.invariant.steady;
    }
