use Rattle.std.proofs.Common.{subst, sym}
use Rattle.leg_packet.specs.Readings.{readings_of}
use Rattle.input_legs.specs.Inner.Counts.{HoldsCounts}
use Rattle.input_legs.proofs.Readings.{view_shows, counts_read}
use Rattle.input_legs.proofs.shown.readings.Goals as goal

pub returns-clause-shown : goal.returns-clause-shown
returns-clause-shown c = view_shows _ _ c.read_in.ensures.view

pub returns-clause-counts : goal.returns-clause-counts
returns-clause-counts c =
    subst HoldsCounts (sym (view_shows (readings_of c.args.chassis.now c.args.packet.now) c.read_in.result c.read_in.ensures.view))
    (counts_read c.args.chassis.now c.args.packet.now c.points-points.ensures.chassis.fit)
