use Rattle.std.proofs.Common.{subst}
use Rattle.leg_packet.specs.Readings.{readings_of}
use Rattle.leg_packet.specs.Views.{IsInViewOf}
use Rattle.leg_packet.proofs.Said.{some_in_said, none_in_said}
use Rattle.leg_packet.proofs.readings.read_in.Goals as goal

pub returns : goal.returns
returns c =
    let p = c.args.packet.now in let ps = c.args.chassis.now in let r = c.readings_in.result in
    let of_chassis = subst (λ qs. IsInViewOf (readings_of qs c.words.result.now) r) c.points.ensures.value c.readings_in.ensures in
    let view = subst (λ xs. IsInViewOf (readings_of ps xs) r) c.words.ensures of_chassis in
    record { view = view; some = some_in_said ps p r view; none = none_in_said ps p r view }
