-- What work at its post does to a leg. Own rule.
use Rattle.std.specs.Prelude.{◌≡◌, ℕ, List, length, Some, slice_get}
use Rattle.tri_base.specs.declared.point.Point.{Point}
use Rattle.engine_face.specs.Meaning.{Meaning}
use Rattle.leg_laws.specs.declared.need.Need.TheVariants.{Done}
use Rattle.leg_laws.specs.Configs.{LegValue, need_of}
use Rattle.leg_laws.specs.Counts.{IsWithin}
use Rattle.leg_laws.specs.Plays.{Play}
use Rattle.leg_laws.specs.SentTaken.{Follows}
use Rattle.tribus.specs.Posts.{PostValue}

-- A leg at its post.
abbrev pub LegAtPost : Type 0
LegAtPost = LegValue × PostValue

-- The leg is the one that was lent: its letter, its points and what it sees of each scan stay, and no note was taken
-- away. The post stays that of its bus and place. The play that the leg followed, by what its post put and took, it
-- follows still. And no need was served behind the last scan.
pub record IsKept (m : List Point → Meaning) (was now : LegAtPost) : Type 0 where
  pub letter : now.0.leg ≡ was.0.leg
  pub points : now.0.points ≡ was.0.points
  pub tape : now.0.tape ≡ was.0.tape
  pub given : now.0.given ≡ was.0.given
  pub place : now.1.place ≡ was.1.place
  pub follows : (play : Play) → Follows (m was.0.points) play was.0 was.1.lists
      → Follows (m was.0.points) play now.0 now.1.lists
  pub within : IsWithin was.0 → IsWithin now.0

-- The leg's last scan is over.
abbrev pub IsDone : LegAtPost → Type 0
IsDone p = need_of p.0 ≡ Done

-- It was worked to its end.
abbrev pub IsWorked : (List Point → Meaning) → (was now : LegAtPost) → Type 0
IsWorked m was now = IsKept m was now × IsDone now

-- Two lists are as long as each other, and each two that stand at one place are related.
abbrev pub AreAll : (LegAtPost → LegAtPost → Type 0) → (olds news : List LegAtPost) → Type 0
AreAll R olds news =
    (length news ≡ length olds)
    × ((i : ℕ) (was now : LegAtPost) → slice_get olds i ≡ Some was → slice_get news i ≡ Some now → R was now)

-- All were worked to their end, and each stays at its place in the list.
abbrev pub HaveWorked : (List Point → Meaning) → (olds news : List LegAtPost) → Type 0
HaveWorked m olds news = AreAll (IsWorked m) olds news
