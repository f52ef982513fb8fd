-- One scan of three legs as a whole: each leg takes what its neighbours put. Own rule.
use Rattle.std.specs.Prelude.{◌≡◌, ℕ, ℤ, suc, ◌++◌, ◌∷◌, [], List}
use Rattle.tri_base.specs.declared.leg.Leg.{Leg}
use Rattle.tri_base.specs.declared.leg.Side.TheVariants.{Left, Right}
use Rattle.tri_base.specs.declared.leg.Triple.{Triple}
use Rattle.tri_base.specs.declared.point.Point.{Point}
use Rattle.tri_base.specs.Legs.{left_of, right_of}
use Rattle.engine_face.specs.Meaning.{Meaning}
use Rattle.input_legs.specs.Marks.{has_mark, note_of}
use Rattle.script_text.specs.LegScans.{LegScan}
use Rattle.plant_script.specs.Faces.{face}
use Rattle.leg_laws.specs.States.{State}
use Rattle.leg_laws.specs.ChangePoint.{prepared}
use Rattle.leg_laws.specs.HalfScans.{HalfScan, half_scan, result_towards, voted_packets}
use Rattle.leg_laws.specs.Closing.{Closed, closed, scan_note}
use Rattle.leg_laws.specs.Plays.{Play, scan_behind}
use Rattle.leg_laws.specs.Rounds.{Before, after_scans, state_after}

-- What each leg sees of a scan, with so many behind it.
abbrev pub scans_behind : Play → (finished : ℕ) → Leg → LegScan
scans_behind play finished leg = scan_behind play leg finished

-- A leg behind the vote and the run, from what each leg sees of the scan and each leg's state before it.
abbrev pub half_at : Meaning → List Point → (Leg → LegScan) → (Leg → State) → Leg → HalfScan
half_at m points ls states leg =
    half_scan m points leg (ls leg) (prepared m (ls leg) (states leg))
    (face Right (ls (left_of leg))) (face Left (ls (right_of leg)))

-- The result that a leg takes from its left.
abbrev pub from_left : Meaning → List Point → (Leg → LegScan) → (Leg → State) → Leg → List ℤ
from_left m points ls states leg =
    result_towards Right (ls (left_of leg)) (half_at m points ls states (left_of leg))

-- The result that a leg takes from its right.
abbrev pub from_right : Meaning → List Point → (Leg → LegScan) → (Leg → State) → Leg → List ℤ
from_right m points ls states leg =
    result_towards Left (ls (right_of leg)) (half_at m points ls states (right_of leg))

-- How the scan ends for a leg.
abbrev pub closed_at : Meaning → List Point → (Leg → LegScan) → (Leg → State) → Leg → Closed
closed_at m points ls states leg =
    closed m leg (ls leg) (half_at m points ls states leg)
    (from_left m points ls states leg) (from_right m points ls states leg)

-- A leg's disagreements behind the vote, from those before it.
abbrev pub marks_at : List Point → (Leg → LegScan) → Leg → List (Triple ℕ) → List (Triple ℕ)
marks_at points ls leg marks =
    note_of points (voted_packets leg (ls leg) (face Right (ls (left_of leg))) (face Left (ls (right_of leg)))) marks

-- After so many scans in step a leg stands before the next one, and so many are finished. The next scan leads its state
-- and its disagreements on as a whole scan of three legs does, and adds the note of that scan.
pub record IsNextScan (m : Meaning) (play : Play) (scans : ℕ) (leg : Leg) : Type 0 where
  pub stand : (after_scans m play leg scans).stand ≡ Before (state_after m play scans leg)
  pub finished : (after_scans m play leg scans).finished ≡ scans
  pub state : state_after m play (suc scans) leg
      ≡ (closed_at m play.points (scans_behind play scans) (state_after m play scans) leg).state
  pub marks : (after_scans m play leg (suc scans)).marks
      ≡ marks_at play.points (scans_behind play scans) leg (after_scans m play leg scans).marks
  pub notes : (after_scans m play leg (suc scans)).notes
      ≡ (after_scans m play leg scans).notes
      ++ scan_note (half_at m play.points (scans_behind play scans) (state_after m play scans) leg)
      (closed_at m play.points (scans_behind play scans) (state_after m play scans) leg)
      (has_mark (after_scans m play leg (suc scans)).marks) ∷ []
