-- The worked recovery, by computing.
use Rattle.std.proofs.Common.{refl}
use Rattle.leg_laws.specs.FaultLines.{acted_all}
use Rattle.leg_laws.specs.ChangePoint.{change_point, prepared}
use Rattle.leg_laws.specs.HalfScans.{half_scan}
use Rattle.leg_laws.specs.Closing.{closed, judged_of, learned_of}
use Rattle.leg_packet.specs.Sheets.{pairs_of}
use Rattle.majority_laws.specs.Recovering.{going_on, played_from}
use Rattle.majority_laws.specs.WorkedRecovery.{StrayLeg}

pub stray_leg_worked : StrayLeg
unfolding going_on played_from acted_all change_point prepared half_scan closed judged_of learned_of pairs_of
stray_leg_worked = record { moves = refl; counts = refl; outvoted = refl; beside = refl; back = refl }
