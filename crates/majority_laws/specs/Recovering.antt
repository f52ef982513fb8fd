-- Two legs that have one run, and a third in any state: scans in which no line speaks for a leg's result. Own rule.
use Rattle.std.specs.Prelude.{◌≡◌, ℕ, ℤ, zero, suc, ◌+◌, ◌*◌, ◌<◌, ◌≤◌, true, false, List, None}
use Rattle.tri_base.specs.declared.leg.Leg.{Leg}
use Rattle.tri_base.specs.declared.leg.Leg.TheVariants.{A, B, C}
use Rattle.tri_base.specs.declared.leg.Side.TheVariants.{Left, Right}
use Rattle.tri_base.specs.declared.leg.Triple.{Triple}
use Rattle.tri_base.specs.declared.point.Point.{Point}
use Rattle.tri_base.specs.Legs.{left_of, right_of}
use Rattle.engine_face.specs.Meaning.{Meaning}
use Rattle.engine_face.specs.Laws.{IsMeaning}
use Rattle.leg_packet.specs.Sheets.{epoch_limit}
use Rattle.input_legs.specs.VotedSheets.{vote_sheet_of}
use Rattle.script_text.specs.LegScans.{LegScan, LoadsBytes}
use Rattle.plant_script.specs.Countdown.{no_acts}
use Rattle.plant_script.specs.Faces.{face}
use Rattle.plant_script.specs.SingleTexts.{accepts}
use Rattle.leg_laws.specs.States.{IsRun, IsState, Run, State, Running}
use Rattle.leg_laws.specs.HalfScans.{run_on}
use Rattle.leg_laws.specs.Closing.{run_windows, turned}
use Rattle.leg_laws.specs.ThreeScans.{closed_at}

-- The states of three legs after so many scans, from any states before the first.
unfoldable pub played_from : Meaning → List Point → (ℕ → Leg → LegScan) → (Leg → State) → (scans : ℕ) → Leg → State
played_from m points ls start zero leg = start leg
played_from m points ls start (suc scans) leg =
    (closed_at m points (ls scans) (played_from m points ls start scans) leg).state

-- The readings that the three legs show in a scan, where each leg shows both sides the same.
abbrev pub shown_in : (Leg → LegScan) → Triple (List ℤ)
shown_in ls = record { a = face Right (ls A); b = face Right (ls B); c = face Right (ls C) }

-- A run after one scan more of its program on what the legs show: it has the words after the scan, and turns to the
-- next window.
abbrev pub gone_on : Meaning → List Point → (Leg → LegScan) → Run → Run
gone_on m points ls run = turned (record run { words = (run_on m run (vote_sheet_of points (shown_in ls))).words })

-- A run that goes on by itself, with no other leg's state or packets, for so many scans on what the legs show.
unfoldable pub going_on : Meaning → List Point → (ℕ → Leg → LegScan) → Run → (scans : ℕ) → Run
going_on m points ls run zero = run
going_on m points ls run (suc scans) = gone_on m points (ls scans) (going_on m points ls run scans)

-- No line speaks for a leg's result.
pub record OwnResults (l : LegScan) : Type 0 where
  pub left : l.result_left ≡ None
  pub right : l.result_right ≡ None

-- A scan without lines on a leg's state or for its result, in which each leg shows both sides the same readings, and
-- one download or none comes, which is refused as a change of that text. What the legs drive is free.
pub record IsFair (m : Meaning) (text : List ℕ) (ls : Leg → LegScan) : Type 0 where
  pub acts : (leg : Leg) → no_acts (ls leg).acts ≡ true
  pub results : (leg : Leg) → OwnResults (ls leg)
  pub faces : (leg : Leg) → face Left (ls leg) ≡ face Right (ls leg)
  pub shared : (leg : Leg) → (ls leg).download ≡ (ls A).download
  pub refused : accepts m (ls A).download text ≡ false
  pub bytes : LoadsBytes (ls A).download

-- Both neighbours of a leg have one run, whose next window is one of its memory's. The leg itself is in any state that
-- a leg can be in.
pub record StandsBeside (m : Meaning) (leg : Leg) (run : Run) (states : Leg → State) : Type 0 where
  pub left : states (left_of leg) ≡ Running run
  pub right : states (right_of leg) ≡ Running run
  pub third : IsState m (states leg)
  pub run_is : IsRun m run
  pub turn : run.turn < run_windows run
  -- One download more can still be counted: so a third leg that has the run's epoch, and alone accepts a download, has
  -- another epoch from then on, which its results show. At the limit the epoch stays, and would not tell.
  pub epoch : run.epoch < epoch_limit

-- Beside two legs that have one run, a third one has it too after so many fair scans, from any state that a leg can be
-- in: twice as many as the run's memory has windows, or more. It is the run that goes on by itself, with its text,
-- epoch, turn and words.
abbrev pub RecoversFromAnyState : Type 0
RecoversFromAnyState =
    (m : Meaning) (points : List Point) (ls : ℕ → Leg → LegScan) (start : Leg → State) (leg : Leg) (run : Run)
    (scans : ℕ)
    → IsMeaning points m → StandsBeside m leg run start → 2 * run_windows run ≤ scans
    → ((k : ℕ) → k < scans → IsFair m run.text (ls k))
    → (each : Leg) → played_from m points ls start scans each ≡ Running (going_on m points ls run scans)

-- So it is after three times as many and two, which is a scan before its countdown ends.
abbrev pub RecoversInTime : Type 0
RecoversInTime =
    (m : Meaning) (points : List Point) (ls : ℕ → Leg → LegScan) (start : Leg → State) (leg : Leg) (run : Run)
    → IsMeaning points m → StandsBeside m leg run start
    → ((k : ℕ) → k < 3 * run_windows run + 2 → IsFair m run.text (ls k))
    → (each : Leg) → played_from m points ls start (3 * run_windows run + 2) each
    ≡ Running (going_on m points ls run (3 * run_windows run + 2))
