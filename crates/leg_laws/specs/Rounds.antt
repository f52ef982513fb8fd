-- Three legs in step. A scan has two rounds: the exchange of readings, with the vote and the run, and the exchange of
-- results, with the judgement. In each round each leg puts a packet on both sides and takes what its neighbours put.
-- Own rule.
use Rattle.std.specs.Prelude.{ℕ, zero, suc, ℤ, ◌+◌, ◌*◌, List, [], ◌∷◌, ◌++◌}
use Rattle.tri_base.specs.declared.leg.Leg.{Leg}
use Rattle.tri_base.specs.declared.leg.Side.{Side}
use Rattle.tri_base.specs.declared.leg.Side.TheVariants.{Left, Right}
use Rattle.tri_base.specs.declared.leg.Triple.{Triple}
use Rattle.tri_base.specs.Legs.{left_of, right_of}
use Rattle.engine_face.specs.Meaning.{Meaning}
use Rattle.fault_history.specs.Notes.{NoteData}
use Rattle.input_legs.specs.Marks.{has_mark, no_marks, note_of}
use Rattle.script_text.specs.LegScans.{LegScan}
use Rattle.plant_script.specs.Faces.{face}
use Rattle.leg_laws.specs.States.{State, first_state}
use Rattle.leg_laws.specs.ChangePoint.{prepared}
use Rattle.leg_laws.specs.HalfScans.{HalfScan, half_scan, result_towards, voted_packets}
use Rattle.leg_laws.specs.Closing.{closed, scan_note}
use Rattle.leg_laws.specs.Plays.{Play, scan_behind}

-- Between two rounds a leg stands before a scan, or within it.
pub data Stand : Type 0 where
  Before : (state : State) → Stand
  Within : (half : HalfScan) → Stand

-- A leg between two rounds: how many scans it has finished, a note of each of them, its disagreements so far, and where
-- it stands.
pub record Standing : Type 0 where
  pub finished : ℕ
  pub notes : List NoteData
  pub marks : List (Triple ℕ)
  pub stand : Stand

-- A leg at its start.
abbrev pub starting : Meaning → Play → Standing
starting m play = record {
  finished = 0;
  notes = [];
  marks = no_marks play.points;
  stand = Before (first_state m play.text);
}

-- What a leg puts on a side in a round: its readings, or its result.
abbrev pub put_at : LegScan → Side → Stand → List ℤ
put_at l side (Before state) = face side l
put_at l side (Within half) = result_towards side l half

-- The same in a play.
abbrev pub put_in : Play → Leg → Side → Standing → List ℤ
put_in play leg side s = put_at (scan_behind play leg s.finished) side s.stand

-- A leg after a round in which it took these packets from its left and its right. Disagreements are noted with the
-- vote, and the scan with its end.
abbrev pub round_at : Meaning → Play → Leg → Standing → (left right : List ℤ) → Stand → Standing
round_at m play leg s left right (Before state) =
    let l = scan_behind play leg s.finished in
    record s {
      marks = note_of play.points (voted_packets leg l left right) s.marks;
      stand = Within (half_scan m play.points leg l (prepared m l state) left right);
    }
round_at m play leg s left right (Within half) =
    let end = closed m leg (scan_behind play leg s.finished) half left right in
    record s {
      finished = s.finished + 1;
      notes = s.notes ++ scan_note half end (has_mark s.marks) ∷ [];
      stand = Before end.state;
    }

-- The same from where the leg stands.
abbrev pub round : Meaning → Play → Leg → Standing → (left right : List ℤ) → Standing
round m play leg s left right = round_at m play leg s left right s.stand

-- Each leg after so many rounds, in each of which it took what its left neighbour put on its right and its right
-- neighbour on its left.
unfoldable pub in_step : Meaning → Play → Leg → (rounds : ℕ) → Standing
in_step m play leg zero = starting m play
in_step m play leg (suc rounds) =
    round m play leg (in_step m play leg rounds)
    (put_in play (left_of leg) Right (in_step m play (left_of leg) rounds))
    (put_in play (right_of leg) Left (in_step m play (right_of leg) rounds))

-- Each leg after so many scans.
abbrev pub after_scans : Meaning → Play → Leg → (scans : ℕ) → Standing
after_scans m play leg scans = in_step m play leg (2 * scans)

-- The state of a leg between two rounds.
abbrev pub state_of : Stand → State
state_of (Before state) = state
state_of (Within half) = half.state

-- A leg's state after so many scans.
abbrev pub state_after : Meaning → Play → (scans : ℕ) → Leg → State
state_after m play scans leg = state_of (after_scans m play leg scans).stand
