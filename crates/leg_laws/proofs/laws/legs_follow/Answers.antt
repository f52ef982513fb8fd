use Rattle.leg_laws.proofs.Joins.{follows_start}
use Rattle.leg_laws.proofs.Followed.{followed_put, followed_note}
use Rattle.leg_laws.proofs.FollowedTakes.{followed_take}
use Rattle.leg_laws.proofs.laws.legs_follow.Goals as goal

pub returns : goal.returns
returns c = record { start = follows_start; put = followed_put; take = followed_take; note = followed_note }
