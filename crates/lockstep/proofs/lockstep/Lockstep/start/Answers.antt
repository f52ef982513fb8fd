use Rattle.std.proofs.Common.{sym, subst}
use Rattle.tri_base.specs.declared.leg.Triple.{Triple}
use Rattle.leg_laws.specs.Configs.{LegValue}
use Rattle.leg_laws.specs.Counts.{IsCounted}
use Rattle.leg_laws.proofs.Reached.{start_counts}
use Rattle.lockstep.specs.Starting.{no_packets}
use Rattle.lockstep.proofs.lockstep.Lockstep.start.Goals as goal

pub invariant_of-result : goal.invariant_of-result
invariant_of-result g c =
    let s = c.requires in
    subst (λ (legs : Triple LegValue). IsCounted (record { legs = legs; boxes = no_packets })) (sym s.are) (start_counts s.meaning s.play s.scans)
