-- Nobody has to believe what stands here: it serves private functions alone.
-- How a leg is kept.
use Rattle.std.specs.Prelude.{◌≡◌, ◌≤◌, ◌<◌, ◌^◌, ℕ, ℤ, Bool, true, false, List, length, map, drop, Option, IsSome}
use Rattle.std.specs.List.{flat_map}
use Rattle.tri_base.specs.declared.leg.Triple.{Triple}
use Rattle.tri_base.specs.declared.point.Point.{Point}
use Rattle.tri_base.specs.Rows.{HasRoom, WordsValue}
use Rattle.chassis.specs.Points.{IsChassis, inputs_of, outputs_of, point_limit}
use Rattle.engine_face.specs.declared.verdict.Verdict.{Verdict}
use Rattle.input_legs.specs.VotedSheets.{VotedSheet}
use Rattle.script_text.specs.LegScans.{TapeValue}
use Rattle.leg_laws.specs.declared.place.Place.{Place}
use Rattle.leg_laws.specs.declared.place.Place.TheVariants as p
use Rattle.leg_laws.specs.States.{State}
use Rattle.leg_laws.specs.Configs.{Config, PutLeftReadings, PutRightReadings, TakeLeftReadings, TakeRightReadings, PutLeftResult, PutRightResult, TakeLeftResult, TakeRightResult, Starved}
use Rattle.leg_parts.specs.Logs.{RoomValue, room_of}
use Rattle.leg_parts.specs.LongLines.{long_lines}
use Rattle.leg_parts.specs.Results.{ResultValue, half_with}
use Rattle.leg_core.specs.Calls.{ReadsInputs}

-- What is known at a place.
abbrev pub config_at : Place → State → Option Verdict → VotedSheet → ResultValue → (left : List ℤ) → Config
config_at p.PutLeftReadings state verdict voted r left = PutLeftReadings state
config_at p.PutRightReadings state verdict voted r left =
    PutRightReadings (record { state = state; verdict = verdict })
config_at p.TakeLeftReadings state verdict voted r left =
    TakeLeftReadings (record { state = state; verdict = verdict })
config_at p.TakeRightReadings state verdict voted r left =
    TakeRightReadings (record { state = state; verdict = verdict }) left
config_at p.PutLeftResult state verdict voted r left = PutLeftResult (half_with state verdict voted r)
config_at p.PutRightResult state verdict voted r left = PutRightResult (half_with state verdict voted r)
config_at p.TakeLeftResult state verdict voted r left = TakeLeftResult (half_with state verdict voted r)
config_at p.TakeRightResult state verdict voted r left = TakeRightResult (half_with state verdict voted r) left

-- The same of a leg that may be starved.
abbrev pub config_kept : (starved : Bool) → Place → State → Option Verdict → VotedSheet → ResultValue
    → (left : List ℤ) → Config
config_kept true place state verdict voted r left = Starved place
config_kept false place state verdict voted r left = config_at place state verdict voted r left

-- The packets of the next puts wait, until each is put.
abbrev pub SlotsAt : Place → (to_left to_right : Option (List ℤ)) → Type 0
SlotsAt p.PutLeftReadings to_left to_right = IsSome to_left × IsSome to_right
SlotsAt p.PutRightReadings to_left to_right = IsSome to_right
SlotsAt p.TakeLeftReadings to_left to_right = Unit {0}
SlotsAt p.TakeRightReadings to_left to_right = IsSome to_left
SlotsAt p.PutLeftResult to_left to_right = IsSome to_left × IsSome to_right
SlotsAt p.PutRightResult to_left to_right = IsSome to_right
SlotsAt p.TakeLeftResult to_left to_right = Unit {0}
SlotsAt p.TakeRightResult to_left to_right = IsSome to_left

-- How many packets of the scan were put.
abbrev pub puts_done : Place → ℕ
puts_done p.PutLeftReadings = 0
puts_done p.PutRightReadings = 1
puts_done p.TakeLeftReadings = 2
puts_done p.TakeRightReadings = 2
puts_done p.PutLeftResult = 2
puts_done p.PutRightResult = 3
puts_done p.TakeLeftResult = 4
puts_done p.TakeRightResult = 4

-- The lists have their lengths and rooms, and the program stands over the chassis.
pub record IsSound (points program_points : List Point) (tape : TapeValue) (counts : List (Triple ℕ))
    (driven : List ℤ) (votes spare : WordsValue) : Type 0 where
  pub chassis : IsChassis points
  pub program : program_points ≡ points
  pub reads : ReadsInputs points tape
  pub scans : length tape.scans < 2 ^ 32
  pub marks : length counts ≡ length (inputs_of points)
  pub outputs : length driven ≤ length (outputs_of points)
  pub voted : length votes.list ≤ length (inputs_of points)
  pub voted_room : HasRoom (length (inputs_of points)) votes
  pub readings : HasRoom point_limit spare

-- The room for what is to come is there: packets, those of long lines, and notes.
pub record IsStocked (points : List Point) (tape : TapeValue) (starved : Bool) (place : Place) (done : ℕ)
    (coming : List RoomValue) (rows : List (Option (List ℤ))) (to_left to_right : Option (List ℤ)) : Type 0 where
  pub within : done ≤ length tape.scans
  pub slots : SlotsAt place to_left to_right
  pub long : rows ≡ drop (puts_done place) (flat_map long_lines (drop done tape.scans))
  pub rooms : starved ≡ false
      → coming ≡ map (room_of (length (inputs_of points)) (length (outputs_of points))) (drop done tape.scans)
