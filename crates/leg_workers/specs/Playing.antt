-- Three legs that play over a bus, from their start to their end. Own rule.
use Rattle.std.specs.Prelude.{◌≡◌, List, []}
use Rattle.tri_base.specs.declared.leg.Leg.{Leg}
use Rattle.tri_base.specs.declared.leg.Leg.TheVariants.{A, B, C}
use Rattle.tri_base.specs.declared.leg.Side.{Side}
use Rattle.tri_base.specs.declared.leg.Triple.{Triple}
use Rattle.tri_base.specs.declared.point.Point.{Point}
use Rattle.tri_base.specs.Legs.{leg_part}
use Rattle.engine_face.specs.Meaning.{Meaning}
use Rattle.leg_laws.specs.declared.need.Need.TheVariants.{Done}
use Rattle.leg_laws.specs.Configs.{LegValue, need_of}
use Rattle.leg_laws.specs.ExchangeSteps.{leg_at_start}
use Rattle.leg_laws.specs.InStep.{IsInStep}
use Rattle.leg_laws.specs.Plays.{HaveEqualScans, Play}
use Rattle.leg_laws.specs.SentTaken.{Follows}
use Rattle.tribus.specs.Settling.{SettledPost, left_on}

-- The three legs of a play before its first scan, each at its own place.
abbrev pub AreAtStart : Meaning → Play → Triple LegValue → Type 0
AreAtStart m play legs =
    legs ≡ record { a = leg_at_start m play A; b = leg_at_start m play B; c = leg_at_start m play C }

-- Each leg is done, and followed the play by what the bus shows that its post put and took. No packet is left in a box.
-- The legs are those of three in step: their notes, and, while none is starved, how they end and their disagreements.
pub record HavePlayedOver (m : Meaning) (play : Play) (legs : Triple LegValue) (bus : Triple SettledPost)
    : Type 0 where
  pub done : (x : Leg) → need_of (leg_part legs x) ≡ Done
  pub follows : (x : Leg) → Follows m play (leg_part legs x) (leg_part bus x).lists
  pub none_left : (x : Leg) (side : Side) → left_on side (leg_part bus x) ≡ []
  pub in_step : IsInStep m play (leg_part legs)

-- No note was taken away from a leg.
abbrev pub KeepNotes : (was now : Triple LegValue) → Type 0
KeepNotes was now = (x : Leg) → (leg_part now x).given ≡ (leg_part was x).given

-- Whatever play the three legs stood at the start of, they have played it to its end over the bus; and no note was
-- taken away.
pub record PlaysOver (m : List Point → Meaning) (was now : Triple LegValue) (bus : Triple SettledPost) : Type 0 where
  pub played : (play : Play) → HaveEqualScans play → AreAtStart (m play.points) play was
      → HavePlayedOver (m play.points) play now bus
  pub notes : KeepNotes was now
