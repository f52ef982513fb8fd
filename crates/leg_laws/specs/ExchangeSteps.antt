-- The steps of an exchange: one leg serves one need. Own rule.
use Rattle.std.specs.Prelude.{◌≡◌, ℤ, true, false, List, [], ◌∷◌, Some, None}
use Rattle.tri_base.specs.declared.leg.Leg.{Leg}
use Rattle.tri_base.specs.declared.leg.Leg.TheVariants.{A, B, C}
use Rattle.tri_base.specs.declared.point.Point.{Point}
use Rattle.tri_base.specs.Legs.{leg_part, neighbour, opposite}
use Rattle.engine_face.specs.Meaning.{Meaning}
use Rattle.input_legs.specs.Marks.{no_marks}
use Rattle.leg_laws.specs.declared.need.Need.{Need}
use Rattle.leg_laws.specs.declared.need.Need.TheVariants.{Put, Take, Done}
use Rattle.leg_laws.specs.States.{first_state}
use Rattle.leg_laws.specs.Plays.{Play}
use Rattle.leg_laws.specs.Configs.{LegValue, PutLeftReadings, need_of, is_starved}
use Rattle.leg_laws.specs.Needs.{put_packet, after_put, after_take, starved}
use Rattle.leg_laws.specs.Exchanges.{Boxes, Exchange, with_part, own_box, box_towards, with_box_of}

-- A leg before its first scan.
abbrev pub leg_at_start : Meaning → Play → Leg → LegValue
leg_at_start m play leg = record {
  leg = leg;
  points = play.points;
  tape = leg_part play.tapes leg;
  finished = 0;
  given = 0;
  notes = [];
  marks = no_marks play.points;
  config = PutLeftReadings (first_state m play.text);
}

-- No packets.
abbrev pub empty_boxes : Boxes
empty_boxes = record { left = None; right = None }

-- Three legs before their first scan, with empty boxes.
abbrev pub exchange_at_start : Meaning → Play → Exchange
exchange_at_start m play = record {
  legs = record { a = leg_at_start m play A; b = leg_at_start m play B; c = leg_at_start m play C };
  boxes = record { a = empty_boxes; b = empty_boxes; c = empty_boxes };
}

-- A leg puts a packet and goes on to its next need: what it has to put, or, from the need on at which it finds no
-- memory, an absent packet.
pub record Puts (m : Meaning) (v v' : LegValue) (packet : List ℤ) : Type 0 where
  pub packet_is : is_starved v' ≡ false → packet ≡ put_packet v
  pub fed : is_starved v' ≡ false → v' ≡ after_put m v
  pub nothing : is_starved v' ≡ true → packet ≡ []
  pub out : is_starved v' ≡ true → v' ≡ starved v

-- A leg takes a packet and goes on to its next need.
pub record Takes (m : Meaning) (v v' : LegValue) (packet : List ℤ) : Type 0 where
  pub fed : is_starved v' ≡ false → v' ≡ after_take m v packet
  pub out : is_starved v' ≡ true → v' ≡ starved v

-- A leg serves a need: a put fills the leg's empty box on that side, a take empties the neighbour's full one. The
-- meaning of programs is that over the leg's points.
abbrev pub Serves : (List Point → Meaning) → Exchange → Leg → Need → Exchange → Type 0
Serves m w leg (Put side) w' =
    (packet : List ℤ) × (v' : LegValue)
    × (own_box w leg side ≡ None)
    × Puts (m (leg_part w.legs leg).points) (leg_part w.legs leg) v' packet
    × (w' ≡ record { legs = with_part leg v' w.legs; boxes = with_box_of w leg side (Some packet) })
Serves m w leg (Take side) w' =
    (packet : List ℤ) × (v' : LegValue)
    × (box_towards w leg side ≡ Some packet)
    × Takes (m (leg_part w.legs leg).points) (leg_part w.legs leg) v' packet
    × (w' ≡ record {
      legs = with_part leg v' w.legs;
      boxes = with_box_of w (neighbour leg side) (opposite side) None;
    })
Serves m w leg Done w' = ⊥

-- One step of a leg leads from an exchange to another: it serves what it needs.
abbrev pub ExchangeStep : (List Point → Meaning) → Exchange → Leg → Exchange → Type 0
ExchangeStep m w leg w' = Serves m w leg (need_of (leg_part w.legs leg)) w'

-- A list of steps leads from an exchange to another.
abbrev pub Reaches : (List Point → Meaning) → Exchange → List Leg → Exchange → Type 0
Reaches m w [] w' = w ≡ w'
Reaches m w (leg ∷ legs) w' = (u : Exchange) × ExchangeStep m w leg u × Reaches m u legs w'

-- Steps lead to an exchange from three legs before their first scan.
abbrev pub IsReached : (List Point → Meaning) → Play → (steps : List Leg) → Exchange → Type 0
IsReached m play steps w = Reaches m (exchange_at_start (m play.points) play) steps w
