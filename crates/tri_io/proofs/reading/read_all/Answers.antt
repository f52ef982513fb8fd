use Rattle.std.proofs.Common.{◌++◌, take, arith}
use Rattle.std.proofs.lemmas.List.{length-append, length-take}
use Rattle.tri_io.proofs.Pieces.{taken_more, taken_front}
use Rattle.tri_io.proofs.reading.read_all.Goals as goal

pub returns-in_err-map_err-clause-front_at_no_memory : goal.returns-in_err-map_err-clause-front_at_no_memory
returns-in_err-map_err-clause-front_at_no_memory g c =
    let left = g.S.Source.left in
    let text = c.loop-count.text.list in
    let n = c.in-Ok.count in
    let buffer = c.read.new.buffer in
    λ _. taken_front c.args.limit (left c.args.source.now) (left c.read.new.self) (text ++ take n buffer)
    (taken_more (left c.args.source.now) (left c.loop-count.source) (left c.read.new.self) text buffer n c.loop-count.invariant.taken c.in-Ok.ensures.bytes)
    (omega (arith, length-append text (take n buffer), length-take n buffer, c.loop-count.invariant.allowed, c.if-count-allowed.false))
