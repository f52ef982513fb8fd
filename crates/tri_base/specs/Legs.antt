-- The three legs stand in a ring: A, B, C, and A again on the right of C.
use Rattle.tri_base.specs.declared.leg.Leg.{Leg}
use Rattle.tri_base.specs.declared.leg.Leg.TheVariants.{A, B, C}
use Rattle.tri_base.specs.declared.leg.Side.{Side}
use Rattle.tri_base.specs.declared.leg.Side.TheVariants.{Left, Right}
use Rattle.tri_base.specs.declared.leg.Triple.{Triple}

-- The left neighbour.
abbrev pub left_of : Leg → Leg
left_of A = C
left_of B = A
left_of C = B

-- The right neighbour.
abbrev pub right_of : Leg → Leg
right_of A = B
right_of B = C
right_of C = A

-- The neighbour on a side.
abbrev pub neighbour : Leg → Side → Leg
neighbour leg Left = left_of leg
neighbour leg Right = right_of leg

-- The side on which a neighbour puts what a leg takes from this side.
abbrev pub opposite : Side → Side
opposite Left = Right
opposite Right = Left

-- A leg's part of three values.
abbrev pub leg_part : {T : Type 0} → Triple T → Leg → T
leg_part t A = t.a
leg_part t B = t.b
leg_part t C = t.c

-- What a leg has of its own, of its left and of its right neighbour, in the order A, B, C.
abbrev pub placed : {T : Type 0} → Leg → (own left right : T) → Triple T
placed A own left right = record { a = own; b = right; c = left }
placed B own left right = record { a = left; b = own; c = right }
placed C own left right = record { a = right; b = left; c = own }
