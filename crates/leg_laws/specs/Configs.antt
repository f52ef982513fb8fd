-- A leg within a play, between two of its needs. Own rule.
use Rattle.std.specs.Prelude.{ℕ, ℤ, ◌+◌, nat_lt, Bool, true, false, List, length, if◌then◌else◌}
use Rattle.tri_base.specs.declared.leg.Leg.{Leg}
use Rattle.tri_base.specs.declared.leg.Triple.{Triple}
use Rattle.tri_base.specs.declared.point.Point.{Point}
use Rattle.fault_history.specs.Notes.{NoteData}
use Rattle.script_text.specs.LegScans.{LegScan, TapeValue, scan_at}
use Rattle.leg_laws.specs.declared.need.Need.{Need}
use Rattle.leg_laws.specs.declared.need.Need.TheVariants.{Done}
use Rattle.leg_laws.specs.declared.place.Place.{Place}
use Rattle.leg_laws.specs.declared.place.Place.TheVariants as p
use Rattle.leg_laws.specs.States.{State}
use Rattle.leg_laws.specs.ChangePoint.{Prepared}
use Rattle.leg_laws.specs.HalfScans.{HalfScan}
use Rattle.leg_laws.specs.Places.{need_at}

-- The place at which a leg stands, with all that it knows there of its program and of the scan. A leg that found no
-- memory knows nothing any more: it is starved, and stands at a place.
pub data Config : Type 0 where
  PutLeftReadings : (state : State) → Config
  PutRightReadings : (ready : Prepared) → Config
  TakeLeftReadings : (ready : Prepared) → Config
  TakeRightReadings : (ready : Prepared) → (left : List ℤ) → Config
  PutLeftResult : (half : HalfScan) → Config
  PutRightResult : (half : HalfScan) → Config
  TakeLeftResult : (half : HalfScan) → Config
  TakeRightResult : (half : HalfScan) → (left : List ℤ) → Config
  Starved : (place : Place) → Config

-- A leg: which one it is, its points, what it sees of each scan, how many scans are over, how many of its notes were
-- taken away, the others, its disagreements so far, and where it stands.
pub record LegValue : Type 0 where
  pub leg : Leg
  pub points : List Point
  pub tape : TapeValue
  pub finished : ℕ
  pub given : ℕ
  pub notes : List NoteData
  pub marks : List (Triple ℕ)
  pub config : Config

-- The place at which a leg stands.
abbrev pub place_of : Config → Place
place_of (PutLeftReadings state) = p.PutLeftReadings
place_of (PutRightReadings ready) = p.PutRightReadings
place_of (TakeLeftReadings ready) = p.TakeLeftReadings
place_of (TakeRightReadings ready left) = p.TakeRightReadings
place_of (PutLeftResult half) = p.PutLeftResult
place_of (PutRightResult half) = p.PutRightResult
place_of (TakeLeftResult half) = p.TakeLeftResult
place_of (TakeRightResult half left) = p.TakeRightResult
place_of (Starved place) = place

-- Whether a leg has found no memory.
abbrev pub starves : Config → Bool
starves (PutLeftReadings state) = false
starves (PutRightReadings ready) = false
starves (TakeLeftReadings ready) = false
starves (TakeRightReadings ready left) = false
starves (PutLeftResult half) = false
starves (PutRightResult half) = false
starves (TakeLeftResult half) = false
starves (TakeRightResult half left) = false
starves (Starved place) = true

-- The same of a leg.
abbrev pub is_starved : LegValue → Bool
is_starved v = starves v.config

-- What a leg needs next: the need of its place, until its last scan is over.
abbrev pub need_of : LegValue → Need
need_of v = if nat_lt v.finished (length v.tape.scans) then need_at (place_of v.config) else Done

-- What a leg sees of the scan that it plays.
abbrev pub scan_now : LegValue → LegScan
scan_now v = scan_at v.tape (v.finished + 1)

-- How many scans a leg has made a note of: those that it finished while it wasn't starved.
abbrev pub noted : LegValue → ℕ
noted v = v.given + length v.notes
