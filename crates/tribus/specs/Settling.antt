-- What contracts see of a bus whose posts are back. Own rule.
use Rattle.std.specs.Prelude.{◌≡◌, ℤ, ◌≤◌, List, ◌++◌, length}
use Rattle.tri_base.specs.declared.leg.Leg.{Leg}
use Rattle.tri_base.specs.declared.leg.Side.{Side}
use Rattle.tri_base.specs.declared.leg.Side.TheVariants.{Left, Right}
use Rattle.tri_base.specs.declared.leg.Triple.{Triple}
use Rattle.tri_base.specs.Legs.{leg_part, neighbour, opposite}
use Rattle.tribus.specs.Ends.{Trace}
use Rattle.tribus.specs.SentTaken.{SentTaken, sent_on, taken_on}
use Rattle.tribus.specs.Posts.{PostValue}

-- A post that is back: what it put and took, and what was left in the boxes from which it takes.
pub record SettledPost : Type 0 where
  pub lists : SentTaken
  pub left_on_left : List (List ℤ)
  pub left_on_right : List (List ℤ)

-- What was left in the box from which a post takes on a side.
abbrev pub left_on : Side → SettledPost → List (List ℤ)
left_on Left p = p.left_on_left
left_on Right p = p.left_on_right

-- The post at four settled links.
abbrev pub settled_post : (to_left to_right from_left from_right : Trace (List ℤ)) → SettledPost
settled_post to_left to_right from_left from_right = record {
  lists = record {
    sent_left = to_left.sent;
    sent_right = to_right.sent;
    taken_left = from_left.taken;
    taken_right = from_right.taken;
  };
  left_on_left = from_left.left;
  left_on_right = from_right.left;
}

-- A settled bus shows the lists of its posts.
abbrev pub KeepsLists : Triple PostValue → Triple SettledPost → Type 0
KeepsLists posts s = (s.a.lists ≡ posts.a.lists) × (s.b.lists ≡ posts.b.lists) × (s.c.lists ≡ posts.c.lists)

-- What the neighbour on a side put towards a post is what that post took from the side, and then what was left in that
-- box: no packet was lost or doubled, and none came out of order.
abbrev pub LosesNothing : Triple SettledPost → Type 0
LosesNothing s =
    (leg : Leg) (side : Side)
    → let own = leg_part s leg in
    let theirs = (leg_part s (neighbour leg side)).lists in
    sent_on (opposite side) theirs ≡ taken_on side own.lists ++ left_on side own

-- In no box was more than one packet left.
abbrev pub HasOneAtMost : Triple SettledPost → Type 0
HasOneAtMost s = (leg : Leg) (side : Side) → length (left_on side (leg_part s leg)) ≤ 1
