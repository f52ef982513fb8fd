-- Three legs and the six boxes between them. Each leg has a box on each side, which holds at most one packet: what the
-- leg put there and the neighbour has not yet taken. Own rule.
use Rattle.std.specs.Prelude.{◌≡◌, ℤ, Bool, false, List, Option, Some, None, is_some, is_none, if◌then◌else◌}
use Rattle.tri_base.specs.declared.leg.Leg.{Leg}
use Rattle.tri_base.specs.declared.leg.Leg.TheVariants.{A, B, C}
use Rattle.tri_base.specs.declared.leg.Side.{Side}
use Rattle.tri_base.specs.declared.leg.Side.TheVariants.{Left, Right}
use Rattle.tri_base.specs.declared.leg.Triple.{Triple}
use Rattle.tri_base.specs.Legs.{leg_part, neighbour, opposite}
use Rattle.leg_laws.specs.declared.need.Need.{Need}
use Rattle.leg_laws.specs.declared.need.Need.TheVariants.{Put, Take, Done}
use Rattle.leg_laws.specs.Configs.{LegValue, need_of}

-- The boxes of a leg.
pub record Boxes : Type 0 where
  pub left : Option (List ℤ)
  pub right : Option (List ℤ)

-- The legs, and the boxes of each.
pub record Exchange : Type 0 where
  pub legs : Triple LegValue
  pub boxes : Triple Boxes

-- Three values with another one for a leg.
abbrev pub with_part : {T : Type 0} → Leg → T → Triple T → Triple T
with_part A x t = record t { a = x }
with_part B x t = record t { b = x }
with_part C x t = record t { c = x }

-- The box on a side.
abbrev pub box_on : Side → Boxes → Option (List ℤ)
box_on Left b = b.left
box_on Right b = b.right

-- Boxes with another content on a side.
abbrev pub with_box : Side → Option (List ℤ) → Boxes → Boxes
with_box Left packet b = record b { left = packet }
with_box Right packet b = record b { right = packet }

-- The box that a leg fills on a side.
abbrev pub own_box : Exchange → Leg → Side → Option (List ℤ)
own_box w leg side = box_on side (leg_part w.boxes leg)

-- The box that a leg empties on a side: its neighbour's, on the neighbour's other side.
abbrev pub box_towards : Exchange → Leg → Side → Option (List ℤ)
box_towards w leg side = own_box w (neighbour leg side) (opposite side)

-- All boxes, with another content of a leg's box on a side.
abbrev pub with_box_of : Exchange → Leg → Side → Option (List ℤ) → Triple Boxes
with_box_of w leg side packet = with_part leg (with_box side packet (leg_part w.boxes leg)) w.boxes

-- A put needs an empty box, a take a full one.
abbrev pub can_serve : Exchange → Leg → Need → Bool
can_serve w leg (Put side) = is_none (own_box w leg side)
can_serve w leg (Take side) = is_some (box_towards w leg side)
can_serve w leg Done = false

-- A leg's step is enabled where it can serve its need.
abbrev pub can_step : Exchange → Leg → Bool
can_step w leg = can_serve w leg (need_of (leg_part w.legs leg))

-- The first leg of A, B, C whose step is enabled.
abbrev pub first_enabled : Exchange → Option Leg
first_enabled w =
    if can_step w A then Some A else (if can_step w B then Some B else (if can_step w C then Some C else None))

-- The last scan of each leg is over.
abbrev pub AllDone : Exchange → Type 0
AllDone w = (need_of w.legs.a ≡ Done) × (need_of w.legs.b ≡ Done) × (need_of w.legs.c ≡ Done)
