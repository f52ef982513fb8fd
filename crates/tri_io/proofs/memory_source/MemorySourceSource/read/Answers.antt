use Rattle.std.proofs.Common.{ap}
use Rattle.tri_io.specs.MemoryStreams.{SourceValue}
use Rattle.tri_io.proofs.Fronts.{given_front}
use Rattle.tri_io.proofs.memory_source.MemorySourceSource.read.Goals as goal

pub returns-clause-bytes : goal.returns-clause-bytes
returns-clause-bytes c =
    let me = c.self.inside in
    let front = c.copy_front-count in
    given_front me.bytes.list c.args.self.now.left c.bytes.result.now c.args.buffer.now front.new.buffer me.at front.result me.piece c.self.invariant.0 (ap (λ (s : SourceValue). s.left) c.self.view_is) c.bytes.ensures front.ensures.count front.ensures.copied
