-- Three legs whose packets go from one to the other: what each took is the front of what its neighbour put. Own rule.
use Rattle.std.specs.Prelude.{◌≡◌, ℕ, ◌+◌, ◌<◌, ◌≤◌, ℤ, List, [], ◌++◌, length, option_to_list}
use Rattle.tri_base.specs.declared.leg.Leg.{Leg}
use Rattle.tri_base.specs.declared.leg.Side.{Side}
use Rattle.tri_base.specs.declared.leg.Side.TheVariants.{Left, Right}
use Rattle.tri_base.specs.declared.leg.Triple.{Triple}
use Rattle.tri_base.specs.Legs.{left_of, right_of}
use Rattle.engine_face.specs.Meaning.{Meaning}
use Rattle.leg_laws.specs.declared.need.Need.TheVariants.{Done}
use Rattle.leg_laws.specs.Plays.{Play}
use Rattle.leg_laws.specs.Configs.{LegValue, need_of}
use Rattle.leg_laws.specs.Counts.{IsWithin}
use Rattle.leg_laws.specs.Exchanges.{Exchange}
use Rattle.leg_laws.specs.InStep.{IsInStep}
use Rattle.leg_laws.specs.SentTaken.{SentTaken, Follows, PutsIn, packet_of, sent_on}

-- A list is as long or shorter, and has the same packets.
abbrev pub IsFront : List (List ℤ) → List (List ℤ) → Type 0
IsFront xs ys = (length xs ≤ length ys) × ((r : ℕ) → r < length xs → packet_of xs r ≡ packet_of ys r)

-- What each leg took is the front of what its neighbours put.
pub record Linked (ls : Leg → SentTaken) : Type 0 where
  pub from_left : (x : Leg) → IsFront (ls x).taken_left (ls (left_of x)).sent_right
  pub from_right : (x : Leg) → IsFront (ls x).taken_right (ls (right_of x)).sent_left

-- In the first rounds each leg put what it had to put; and no leg is more than a packet ahead of what it took.
pub record Honest (m : Meaning) (play : Play) (ls : Leg → SentTaken) (rounds : ℕ) : Type 0 where
  pub puts : (x : Leg) → PutsIn m play x (ls x) rounds
  pub left : (x : Leg) (side : Side) → length (sent_on side (ls x)) ≤ length (ls x).taken_left + 1
  pub right : (x : Leg) (side : Side) → length (sent_on side (ls x)) ≤ length (ls x).taken_right + 1

-- Each leg follows the play, and the packets of each link are those that were taken, and then what its box holds.
pub record Joined (m : Meaning) (play : Play) (w : Exchange) (t : Triple SentTaken) : Type 0 where
  pub follows_a : Follows m play w.legs.a t.a
  pub follows_b : Follows m play w.legs.b t.b
  pub follows_c : Follows m play w.legs.c t.c
  pub left_a : t.a.sent_left ≡ t.c.taken_right ++ option_to_list w.boxes.a.left
  pub left_b : t.b.sent_left ≡ t.a.taken_right ++ option_to_list w.boxes.b.left
  pub left_c : t.c.sent_left ≡ t.b.taken_right ++ option_to_list w.boxes.c.left
  pub right_a : t.a.sent_right ≡ t.b.taken_left ++ option_to_list w.boxes.a.right
  pub right_b : t.b.sent_right ≡ t.c.taken_left ++ option_to_list w.boxes.b.right
  pub right_c : t.c.sent_right ≡ t.a.taken_left ++ option_to_list w.boxes.c.right

-- Links that are settled: what a leg took on a side, and then what was left in that link, is the front of what the
-- neighbour put there.
pub record IsSettled (ls : Leg → SentTaken) (left : Leg → Side → List (List ℤ)) : Type 0 where
  pub from_left : (x : Leg) → IsFront ((ls x).taken_left ++ left x Left) (ls (left_of x)).sent_right
  pub from_right : (x : Leg) → IsFront ((ls x).taken_right ++ left x Right) (ls (right_of x)).sent_left

-- Each leg followed the play to its end, starved or not.
pub record HaveFollowed (m : Meaning) (play : Play) (vs : Leg → LegValue) (ls : Leg → SentTaken) : Type 0 where
  pub letters : (x : Leg) → (vs x).leg ≡ x
  pub follows : (x : Leg) → Follows m play (vs x) (ls x)
  pub done : (x : Leg) → need_of (vs x) ≡ Done
  pub within : (x : Leg) → IsWithin (vs x)

-- Then no packet is left in a link, and the legs are in step.
pub record HavePlayed (m : Meaning) (play : Play) (vs : Leg → LegValue) (left : Leg → Side → List (List ℤ))
    : Type 0 where
  pub none_left : (x : Leg) (side : Side) → left x side ≡ []
  pub in_step : IsInStep m play vs
