-- The places of a scan: what is needed at each, and which one is behind it. Own rule.
use Rattle.std.specs.Prelude.{ℕ, ◌+◌}
use Rattle.tri_base.specs.declared.leg.Side.TheVariants.{Left, Right}
use Rattle.leg_laws.specs.declared.need.Need.{Need}
use Rattle.leg_laws.specs.declared.need.Need.TheVariants.{Put, Take}
use Rattle.leg_laws.specs.declared.place.Place.{Place}
use Rattle.leg_laws.specs.declared.place.Place.TheVariants as p

-- Two puts and two takes for the readings, and the same for the results.
abbrev pub need_at : Place → Need
need_at p.PutLeftReadings = Put Left
need_at p.PutRightReadings = Put Right
need_at p.TakeLeftReadings = Take Left
need_at p.TakeRightReadings = Take Right
need_at p.PutLeftResult = Put Left
need_at p.PutRightResult = Put Right
need_at p.TakeLeftResult = Take Left
need_at p.TakeRightResult = Take Right

-- The place behind one. Behind the last place the next scan begins.
abbrev pub next_place : Place → Place
next_place p.PutLeftReadings = p.PutRightReadings
next_place p.PutRightReadings = p.TakeLeftReadings
next_place p.TakeLeftReadings = p.TakeRightReadings
next_place p.TakeRightReadings = p.PutLeftResult
next_place p.PutLeftResult = p.PutRightResult
next_place p.PutRightResult = p.TakeLeftResult
next_place p.TakeLeftResult = p.TakeRightResult
next_place p.TakeRightResult = p.PutLeftReadings

-- How many needs of the scan are served at a place.
abbrev pub served : Place → ℕ
served p.PutLeftReadings = 0
served p.PutRightReadings = 1
served p.TakeLeftReadings = 2
served p.TakeRightReadings = 3
served p.PutLeftResult = 4
served p.PutRightResult = 5
served p.TakeLeftResult = 6
served p.TakeRightResult = 7

-- The need at the last place ends a scan.
abbrev pub finished_after : Place → (finished : ℕ) → ℕ
finished_after p.TakeRightResult finished = finished + 1
finished_after place finished = finished
