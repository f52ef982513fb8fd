-- Three legs before their first scan. Own rule.
use Rattle.std.specs.Prelude.{◌≡◌}
use Rattle.tri_base.specs.declared.leg.Triple.{Triple}
use Rattle.engine_face.specs.Meaning.{Meaning}
use Rattle.leg_laws.specs.Configs.{LegValue}
use Rattle.leg_laws.specs.Exchanges.{Boxes}
use Rattle.leg_laws.specs.ExchangeSteps.{empty_boxes, exchange_at_start}
use Rattle.leg_laws.specs.Plays.{Play, HaveEqualScans}

-- The legs are those of some play before its first scan, each at its own place, with equal numbers of scans.
pub record AreAtStart (legs : Triple LegValue) : Type 0 where
  pub meaning : Meaning
  pub play : Play
  pub scans : HaveEqualScans play
  pub are : legs ≡ (exchange_at_start meaning play).legs

-- Six empty boxes.
abbrev pub no_packets : Triple Boxes
no_packets = record { a = empty_boxes; b = empty_boxes; c = empty_boxes }
