-- What a leg does at each of its needs. At a need of the other kind the functions leave all as it is; no call comes
-- there. Own rule.
use Rattle.std.specs.Prelude.{ℕ, ℤ, List, [], ◌∷◌, ◌++◌}
use Rattle.tri_base.specs.declared.leg.Leg.{Leg}
use Rattle.tri_base.specs.declared.leg.Side.TheVariants.{Left, Right}
use Rattle.tri_base.specs.declared.leg.Triple.{Triple}
use Rattle.tri_base.specs.declared.point.Point.{Point}
use Rattle.engine_face.specs.Meaning.{Meaning}
use Rattle.fault_history.specs.Notes.{NoteData}
use Rattle.input_legs.specs.Marks.{has_mark, note_of}
use Rattle.script_text.specs.LegScans.{LegScan}
use Rattle.plant_script.specs.Faces.{face}
use Rattle.leg_laws.specs.ChangePoint.{prepared}
use Rattle.leg_laws.specs.HalfScans.{half_scan, result_towards, voted_packets}
use Rattle.leg_laws.specs.Closing.{closed, scan_note}
use Rattle.leg_laws.specs.Places.{next_place, finished_after}
use Rattle.leg_laws.specs.Configs.{Config, LegValue, PutLeftReadings, PutRightReadings, TakeLeftReadings, TakeRightReadings, PutLeftResult, PutRightResult, TakeLeftResult, TakeRightResult, Starved, place_of, scan_now}

-- ---- a put

-- The packet: readings towards a side, or the result. A starved leg puts an absent one.
abbrev pub packet_at : LegScan → Config → List ℤ
packet_at l (PutLeftReadings state) = face Left l
packet_at l (PutRightReadings ready) = face Right l
packet_at l (TakeLeftReadings ready) = []
packet_at l (TakeRightReadings ready left) = []
packet_at l (PutLeftResult half) = result_towards Left l half
packet_at l (PutRightResult half) = result_towards Right l half
packet_at l (TakeLeftResult half) = []
packet_at l (TakeRightResult half left) = []
packet_at l (Starved place) = []

-- Where the leg stands then. The first put of a scan does the fault lines and the change point.
abbrev pub config_after_put : Meaning → LegScan → Config → Config
config_after_put m l (PutLeftReadings state) = PutRightReadings (prepared m l state)
config_after_put m l (PutRightReadings ready) = TakeLeftReadings ready
config_after_put m l (TakeLeftReadings ready) = TakeLeftReadings ready
config_after_put m l (TakeRightReadings ready left) = TakeRightReadings ready left
config_after_put m l (PutLeftResult half) = PutRightResult half
config_after_put m l (PutRightResult half) = TakeLeftResult half
config_after_put m l (TakeLeftResult half) = TakeLeftResult half
config_after_put m l (TakeRightResult half left) = TakeRightResult half left
config_after_put m l (Starved place) = Starved (next_place place)

-- What a leg puts.
abbrev pub put_packet : LegValue → List ℤ
put_packet v = packet_at (scan_now v) v.config

-- The leg behind a put.
abbrev pub after_put : Meaning → LegValue → LegValue
after_put m v = record v { config = config_after_put m (scan_now v) v.config }

-- ---- a take

-- Where the leg stands after a take. The last take of the readings votes and runs, the last one of the results judges
-- or learns.
abbrev pub config_after_take : Meaning → List Point → Leg → LegScan → (packet : List ℤ) → Config → Config
config_after_take m points leg l packet (PutLeftReadings state) = PutLeftReadings state
config_after_take m points leg l packet (PutRightReadings ready) = PutRightReadings ready
config_after_take m points leg l packet (TakeLeftReadings ready) = TakeRightReadings ready packet
config_after_take m points leg l packet (TakeRightReadings ready left) =
    PutLeftResult (half_scan m points leg l ready left packet)
config_after_take m points leg l packet (PutLeftResult half) = PutLeftResult half
config_after_take m points leg l packet (PutRightResult half) = PutRightResult half
config_after_take m points leg l packet (TakeLeftResult half) = TakeRightResult half packet
config_after_take m points leg l packet (TakeRightResult half left) =
    PutLeftReadings (closed m leg l half left packet).state
config_after_take m points leg l packet (Starved place) = Starved (next_place place)

-- Disagreements are noted with the last take of the readings.
abbrev pub marks_after_take : List Point → Leg → LegScan → (packet : List ℤ) → List (Triple ℕ) → Config
    → List (Triple ℕ)
marks_after_take points leg l packet marks (TakeRightReadings ready left) =
    note_of points (voted_packets leg l left packet) marks
marks_after_take points leg l packet marks config = marks

-- A note of the scan is made with its last take.
abbrev pub notes_after_take : Meaning → Leg → LegScan → (packet : List ℤ) → List (Triple ℕ) → List NoteData → Config
    → List NoteData
notes_after_take m leg l packet marks notes (TakeRightResult half left) =
    notes ++ scan_note half (closed m leg l half left packet) (has_mark marks) ∷ []
notes_after_take m leg l packet marks notes config = notes

-- The leg behind a take.
abbrev pub after_take : Meaning → LegValue → (packet : List ℤ) → LegValue
after_take m v packet = record v {
  finished = finished_after (place_of v.config) v.finished;
  notes = notes_after_take m v.leg (scan_now v) packet v.marks v.notes v.config;
  marks = marks_after_take v.points v.leg (scan_now v) packet v.marks v.config;
  config = config_after_take m v.points v.leg (scan_now v) packet v.config;
}

-- ---- no memory

-- A leg that finds no memory at a need is starved from there on. It goes on to its next need, and makes no note.
abbrev pub starved : LegValue → LegValue
starved v = record v {
  finished = finished_after (place_of v.config) v.finished;
  config = Starved (next_place (place_of v.config));
}
