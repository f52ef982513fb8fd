-- One leg, its own two boxes, and those boxes of its neighbours that it takes from.
-- Nobody has to believe this: it serves private functions alone.
use Rattle.std.specs.Prelude.{◌≡◌, ℤ, List, Option, Some, None, Bool, false, is_some, is_none}
use Rattle.tri_base.specs.declared.leg.Leg.{Leg}
use Rattle.tri_base.specs.declared.leg.Leg.TheVariants.{A, B, C}
use Rattle.tri_base.specs.declared.leg.Side.TheVariants.{Left, Right}
use Rattle.engine_face.specs.Meaning.{Meaning}
use Rattle.leg_laws.specs.declared.need.Need.{Need}
use Rattle.leg_laws.specs.declared.need.Need.TheVariants.{Put, Take, Done}
use Rattle.leg_laws.specs.Configs.{LegValue}
use Rattle.leg_laws.specs.Exchanges.{Exchange}
use Rattle.leg_laws.specs.ExchangeSteps.{Puts, Takes}

-- that part of an exchange
pub record Around : Type 0 where
  pub leg : LegValue
  pub left : Option (List ℤ)
  pub right : Option (List ℤ)
  pub from_left : Option (List ℤ)
  pub from_right : Option (List ℤ)

-- whether the leg's need can be served
abbrev pub can_serve_around : Need → Around → Bool
can_serve_around (Put Left) o = is_none o.left
can_serve_around (Put Right) o = is_none o.right
can_serve_around (Take Left) o = is_some o.from_left
can_serve_around (Take Right) o = is_some o.from_right
can_serve_around Done o = false

-- the leg serves its need, and one box changes
abbrev pub ServesAround : Meaning → Need → Around → Around → Type 0
ServesAround m (Put Left) o o' =
    (packet : List ℤ) × (o.left ≡ None) × Puts m o.leg o'.leg packet
    × (o' ≡ record o { leg = o'.leg; left = Some packet })
ServesAround m (Put Right) o o' =
    (packet : List ℤ) × (o.right ≡ None) × Puts m o.leg o'.leg packet
    × (o' ≡ record o { leg = o'.leg; right = Some packet })
ServesAround m (Take Left) o o' =
    (packet : List ℤ) × (o.from_left ≡ Some packet) × Takes m o.leg o'.leg packet
    × (o' ≡ record o { leg = o'.leg; from_left = None })
ServesAround m (Take Right) o o' =
    (packet : List ℤ) × (o.from_right ≡ Some packet) × Takes m o.leg o'.leg packet
    × (o' ≡ record o { leg = o'.leg; from_right = None })
ServesAround m Done o o' = ⊥

-- what a leg sees of an exchange
abbrev pub around : Exchange → Leg → Around
around w A = record {
  leg = w.legs.a;
  left = w.boxes.a.left;
  right = w.boxes.a.right;
  from_left = w.boxes.c.right;
  from_right = w.boxes.b.left;
}
around w B = record {
  leg = w.legs.b;
  left = w.boxes.b.left;
  right = w.boxes.b.right;
  from_left = w.boxes.a.right;
  from_right = w.boxes.c.left;
}
around w C = record {
  leg = w.legs.c;
  left = w.boxes.c.left;
  right = w.boxes.c.right;
  from_left = w.boxes.b.right;
  from_right = w.boxes.a.left;
}

-- the exchange with that part changed
abbrev pub with_around : Exchange → Leg → Around → Exchange
with_around w A o = record {
  legs = record { a = o.leg; b = w.legs.b; c = w.legs.c };
  boxes = record {
    a = record { left = o.left; right = o.right };
    b = record { left = o.from_right; right = w.boxes.b.right };
    c = record { left = w.boxes.c.left; right = o.from_left };
  };
}
with_around w B o = record {
  legs = record { a = w.legs.a; b = o.leg; c = w.legs.c };
  boxes = record {
    a = record { left = w.boxes.a.left; right = o.from_left };
    b = record { left = o.left; right = o.right };
    c = record { left = o.from_right; right = w.boxes.c.right };
  };
}
with_around w C o = record {
  legs = record { a = w.legs.a; b = w.legs.b; c = o.leg };
  boxes = record {
    a = record { left = o.from_right; right = w.boxes.a.right };
    b = record { left = w.boxes.b.left; right = o.from_left };
    c = record { left = o.left; right = o.right };
  };
}
