-- The vote over three packets of readings, input by input (own rule). A packet that spells no canonical readings is
-- absent for the time and at every input.
use Rattle.std.specs.Prelude.{ℕ, ℤ, ◌+◌, List, [], ◌∷◌, Option, Some, None, slice_get}
use Rattle.tri_base.specs.declared.leg.Triple.{Triple}
use Rattle.tri_base.specs.declared.point.Point.{Point}
use Rattle.tri_base.specs.declared.point.PointKind.{PointKind}
use Rattle.tri_base.specs.declared.point.PointKind.TheVariants.{Di, Ai, Do, Ao}
use Rattle.chassis.specs.Points.{inputs_of}
use Rattle.leg_packet.specs.Readings.{Readings, readings_of}
use Rattle.vote_discrete.specs.Majority.{vote_of}
use Rattle.vote_discrete.specs.Truths.{truths, number}
use Rattle.vote_analog.specs.Middle.{LiesBetween, mid_of}

-- A scan time in milliseconds, and one value for each input in chassis order.
pub record VotedSheet : Type 0 where
  pub time : ℤ
  pub values : List ℤ

-- The readings that three packets spell.
abbrev pub read_three : List Point → Triple (List ℤ) → Triple (Option Readings)
read_three points packets =
    record { a = readings_of points packets.a; b = readings_of points packets.b; c = readings_of points packets.c }

-- A leg's scan time.
abbrev pub time_of : Option Readings → Option ℤ
time_of None = None
time_of (Some r) = Some r.time

-- A leg's reading of the input at a place.
abbrev pub reading_at : Option Readings → ℕ → Option ℤ
reading_at None input = None
reading_at (Some r) input = slice_get r.values input

-- The scan times of three legs.
abbrev pub times_of : Triple (Option Readings) → Triple (Option ℤ)
times_of rs = record { a = time_of rs.a; b = time_of rs.b; c = time_of rs.c }

-- Three legs' readings of the input at a place.
abbrev pub column : Triple (Option Readings) → ℕ → Triple (Option ℤ)
column rs input = record { a = reading_at rs.a input; b = reading_at rs.b input; c = reading_at rs.c input }

-- What three readings of a point give: the majority at a discrete point, the middle at an analogue one.
abbrev pub voted_value : PointKind → Triple (Option ℤ) → ℤ
voted_value Di words = number (vote_of (truths words))
voted_value Do words = number (vote_of (truths words))
voted_value Ai counts = mid_of counts
voted_value Ao counts = mid_of counts

-- The votes at inputs of which the first stands at a place.
abbrev pub voted_from : List Point → ℕ → Triple (Option Readings) → List ℤ
voted_from [] input rs = []
voted_from (point ∷ points) input rs = voted_value point.kind (column rs input) ∷ voted_from points (input + 1) rs

-- The middle of the scan times, and the votes at all inputs.
abbrev pub vote_sheet_of : List Point → Triple (List ℤ) → VotedSheet
vote_sheet_of points packets =
    let rs = read_three points packets in
    record { time = mid_of (times_of rs); values = voted_from (inputs_of points) 0 rs }

-- Each value of a list lies between those of two others at its place.
abbrev pub LieBetween : (xs ys values : List ℤ) → Type 0
LieBetween [] [] [] = Unit {0}
LieBetween (x ∷ xs) (y ∷ ys) (value ∷ values) = LiesBetween (Some x) (Some y) value × LieBetween xs ys values
LieBetween _ _ _ = ⊥

-- Time and values lie between those of two legs' readings.
pub record SheetLiesBetween (r s : Readings) (v : VotedSheet) : Type 0 where
  pub time : LiesBetween (Some r.time) (Some s.time) v.time
  pub values : LieBetween r.values s.values v.values

-- The same where both legs have readings.
abbrev pub LiesBetweenTwo : Option Readings → Option Readings → VotedSheet → Type 0
LiesBetweenTwo None s v = Unit {0}
LiesBetweenTwo (Some r) None v = Unit {0}
LiesBetweenTwo (Some r) (Some s) v = SheetLiesBetween r s v

-- The same of any two of three legs.
abbrev pub LiesBetweenAnyTwo : Triple (Option Readings) → VotedSheet → Type 0
LiesBetweenAnyTwo rs v = LiesBetweenTwo rs.a rs.b v × LiesBetweenTwo rs.b rs.c v × LiesBetweenTwo rs.c rs.a v
