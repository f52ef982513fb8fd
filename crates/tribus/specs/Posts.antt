-- What contracts see of a bus and of the posts at it. Own rule.
use Rattle.std.specs.Prelude.{◌≡◌}
use Rattle.atomic_table.specs.Seated.{TableId}
use Rattle.tri_base.specs.declared.leg.Triple.{Triple}
use Rattle.tribus.specs.SentTaken.{SentTaken, nothing_sent}

-- A place at a bus, by its four links: those on which its post puts, and those from which it takes.
pub record PostPlace : Type 0 where
  pub to_left : TableId
  pub to_right : TableId
  pub from_left : TableId
  pub from_right : TableId

-- A post: its place, and what it put and took.
pub record PostValue : Type 0 where
  pub place : PostPlace
  pub lists : SentTaken

-- The post of a place, which has put and taken nothing.
abbrev pub first_post : PostPlace → PostValue
first_post place = record { place = place; lists = nothing_sent }

-- The posts of a bus that is new, which is seen as its three places.
abbrev pub first_posts : Triple PostPlace → Triple PostValue
first_posts bus = record { a = first_post bus.a; b = first_post bus.b; c = first_post bus.c }

-- The posts are those of this bus, each at its own place.
abbrev pub AreAtTheirPlaces : Triple PostPlace → Triple PostValue → Type 0
AreAtTheirPlaces bus posts = (posts.a.place ≡ bus.a) × (posts.b.place ≡ bus.b) × (posts.c.place ≡ bus.c)
