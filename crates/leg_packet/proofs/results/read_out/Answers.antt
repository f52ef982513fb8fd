use Rattle.std.proofs.Common.{subst}
use Rattle.leg_packet.specs.Sheets.{sheet_of}
use Rattle.leg_packet.specs.Views.{IsViewOf}
use Rattle.leg_packet.proofs.Said.{some_said, none_said}
use Rattle.leg_packet.proofs.results.read_out.Goals as goal

pub returns : goal.returns
returns c =
    let p = c.args.packet.now in let r = c.result_in.result in
    let view = subst (λ xs. IsViewOf (sheet_of xs) r) c.words.ensures c.result_in.ensures in
    record { view = view; some = some_said p r view; none = none_said p r view }
