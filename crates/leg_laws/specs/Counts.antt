-- Where three legs stand, and which boxes are full: what a leg put on a side is what that neighbour took there, and
-- what the box holds. Own rule.
use Rattle.std.specs.Prelude.{◌≡◌, ℕ, ◌+◌, ◌*◌, ◌/◌, ◌%◌, ◌≤◌, nat_le, ℤ, List, length, Option, Some, None, if◌then◌else◌}
use Rattle.leg_laws.specs.Places.{served}
use Rattle.leg_laws.specs.Configs.{LegValue, place_of}
use Rattle.leg_laws.specs.Exchanges.{Exchange}

-- How many rounds a leg has done: two a scan.
abbrev pub rounds_done : LegValue → ℕ
rounds_done v = 2 * v.finished + served (place_of v.config) / 4

-- How many needs of its round it has served.
abbrev pub served_in_round : LegValue → ℕ
served_in_round v = served (place_of v.config) % 4

-- 1 where at least that many needs of the round are served.
abbrev pub one_from : (least served : ℕ) → ℕ
one_from least served = if nat_le least served then 1 else 0

-- How many packets a leg has put on its left: that is the first need of a round.
abbrev pub put_left : LegValue → ℕ
put_left v = rounds_done v + one_from 1 (served_in_round v)

-- On its right, at the second need.
abbrev pub put_right : LegValue → ℕ
put_right v = rounds_done v + one_from 2 (served_in_round v)

-- How many it has taken from its left, at the third need.
abbrev pub took_left : LegValue → ℕ
took_left v = rounds_done v + one_from 3 (served_in_round v)

-- From its right, at the last need.
abbrev pub took_right : LegValue → ℕ
took_right v = rounds_done v

-- How many packets a box holds.
abbrev pub full : Option (List ℤ) → ℕ
full None = 0
full (Some packet) = 1

-- How many needs a leg has served.
abbrev pub needs_served : LegValue → ℕ
needs_served v = 8 * v.finished + served (place_of v.config)

-- A leg stands in one of its scans, or behind the last one.
abbrev pub IsWithin : LegValue → Type 0
IsWithin v = needs_served v ≤ 8 * length v.tape.scans

-- Legs with equal numbers of scans, and the packets of the six boxes.
pub record IsCounted (w : Exchange) : Type 0 where
  pub scans_b : length w.legs.b.tape.scans ≡ length w.legs.a.tape.scans
  pub scans_c : length w.legs.c.tape.scans ≡ length w.legs.a.tape.scans
  pub within_a : IsWithin w.legs.a
  pub within_b : IsWithin w.legs.b
  pub within_c : IsWithin w.legs.c
  pub left_a : put_left w.legs.a ≡ took_right w.legs.c + full w.boxes.a.left
  pub left_b : put_left w.legs.b ≡ took_right w.legs.a + full w.boxes.b.left
  pub left_c : put_left w.legs.c ≡ took_right w.legs.b + full w.boxes.c.left
  pub right_a : put_right w.legs.a ≡ took_left w.legs.b + full w.boxes.a.right
  pub right_b : put_right w.legs.b ≡ took_left w.legs.c + full w.boxes.b.right
  pub right_c : put_right w.legs.c ≡ took_left w.legs.a + full w.boxes.c.right
