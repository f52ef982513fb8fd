use Rattle.std.proofs.Common.{◌^◌, ◌-◌, arith}
use Rattle.tri_io.proofs.Fronts.{given_front}
use Rattle.tri_io.proofs.sure_source.SureSourceSource.read.Goals as goal

pub returns-clause-bytes : goal.returns-clause-bytes
returns-clause-bytes c =
    let me = c.self.inside in
    let front = c.copy_front-count in
    given_front me.bytes.list c.args.self.now c.bytes.result.now c.args.buffer.now front.new.buffer me.at front.result (2 ^ 64 - 1) (omega arith) c.self.view_is c.bytes.ensures front.ensures.count front.ensures.copied
