-- A leg before its first scan.
use Rattle.std.proofs.Common.{◌≡◌, ◌<◌, ◌^◌, ℕ, ℤ, false, List, [], length, map, Some, sym, ap, ◌∙◌, arith, rules}
use Rattle.std.proofs.lemmas.List.{length-replicate}
use Rattle.tri_base.specs.declared.leg.Leg.{Leg}
use Rattle.tri_base.specs.declared.leg.Triple.{Triple}
use Rattle.tri_base.specs.declared.point.Point.{Point}
use Rattle.tri_base.specs.Legs.{leg_part}
use Rattle.chassis.specs.Points.{IsChassis, inputs_of, outputs_of}
use Rattle.engine_face.specs.Meaning.{Meaning}
use Rattle.fault_history.specs.Notes.{NoteData}
use Rattle.input_legs.specs.Marks.{no_marks, no_row}
use Rattle.script_text.specs.LegScans.{TapeValue}
use Rattle.leg_laws.specs.declared.place.Place.TheVariants as p
use Rattle.leg_laws.specs.States.{State, first_state}
use Rattle.leg_laws.specs.Plays.{Play}
use Rattle.leg_laws.specs.Configs.{LegValue, PutLeftReadings}
use Rattle.leg_laws.specs.ExchangeSteps.{leg_at_start}
use Rattle.leg_parts.specs.Logs.{LogValue, room_of}
use Rattle.leg_parts.specs.Results.{ResultValue}
use Rattle.leg_core.specs.declared.leg_run.Room.{Room}
use Rattle.leg_core.specs.Calls.{ReadsInputs}
use Rattle.leg_core.specs.Inner.Fit.{IsSound, IsStocked}
use Rattle.leg_core.specs.Inner.Rooms.{IsRoom}

pub starts : (m : Meaning) (play : Play) (leg : Leg) (points : List Point) (text : List ℕ) (tape : TapeValue)
    (log log' : LogValue) (marks : List (Triple ℕ)) (state : State)
    → play.points ≡ points → play.text ≡ text → leg_part play.tapes leg ≡ tape
    → log ≡ log' → log'.given ≡ 0 → log'.notes ≡ [] → marks ≡ no_marks points → state ≡ first_state m text
    → ◌≡◌ {A = LegValue} (record {
      leg = leg;
      points = points;
      tape = tape;
      finished = 0;
      given = log.given;
      notes = log.notes;
      marks = marks;
      config = PutLeftReadings state;
    }) (leg_at_start m play leg)
starts m play leg points text tape log log' marks state e f h l a b k s =
    ap (λ (x : LogValue). record { leg = leg; points = points; tape = tape; finished = 0; given = x.given; notes = x.notes; marks = marks; config = PutLeftReadings state }) l
    ∙ ap (λ (x : ℕ). record { leg = leg; points = points; tape = tape; finished = 0; given = x; notes = log'.notes; marks = marks; config = PutLeftReadings state }) a
    ∙ ap (λ (x : List NoteData). record { leg = leg; points = points; tape = tape; finished = 0; given = 0; notes = x; marks = marks; config = PutLeftReadings state }) b
    ∙ ap (λ (x : List (Triple ℕ)). record { leg = leg; points = points; tape = tape; finished = 0; given = 0; notes = []; marks = x; config = PutLeftReadings state }) k
    ∙ ap (λ (x : State). record { leg = leg; points = points; tape = tape; finished = 0; given = 0; notes = []; marks = no_marks points; config = PutLeftReadings x }) s
    ∙ ap (λ (x : List Point). record { leg = leg; points = x; tape = tape; finished = 0; given = 0; notes = []; marks = no_marks x; config = PutLeftReadings (first_state m text) }) (sym e)
    ∙ ap (λ (x : List ℕ). record { leg = leg; points = play.points; tape = tape; finished = 0; given = 0; notes = []; marks = no_marks play.points; config = PutLeftReadings (first_state m x) }) (sym f)
    ∙ ap (λ (x : TapeValue). record { leg = leg; points = play.points; tape = x; finished = 0; given = 0; notes = []; marks = no_marks play.points; config = PutLeftReadings (first_state m play.text) }) (sym h)

pub sound : (points points' program_points : List Point) (tape : TapeValue) (marks : List (Triple ℕ)) (inputs : ℕ) (r : Room)
    → IsChassis points → program_points ≡ points → ReadsInputs points tape → length tape.scans < 2 ^ 32
    → marks ≡ no_marks points → points' ≡ points → inputs ≡ length (inputs_of points') → IsRoom inputs tape r
    → IsSound points program_points tape marks r.result.outputs r.voted.values r.readings
sound points points' program_points tape marks inputs r chassis program reads scans k e n room =
    let count : inputs ≡ length (inputs_of points) = n ∙ ap (λ (ps : List Point). length (inputs_of ps)) e in
    let driven : length r.result.outputs ≡ 0 = ap (λ (x : ResultValue). length x.outputs) room.result in
    record {
      chassis = chassis;
      program = program;
      reads = reads;
      scans = scans;
      marks = ap length k ∙ length-replicate (length (inputs_of points)) no_row;
      outputs = omega (arith, driven);
      voted = omega (arith, ap length room.votes);
      voted_room = omega (arith, room.voted, count);
      readings = room.readings;
    }

pub stocked : (points points' : List Point) (tape : TapeValue) (inputs outputs : ℕ) (r : Room) (log : LogValue)
    (left right : List ℤ)
    → points' ≡ points → inputs ≡ length (inputs_of points') → outputs ≡ length (outputs_of points')
    → IsRoom inputs tape r → log.rooms ≡ map (room_of inputs outputs) tape.scans
    → IsStocked points tape false p.PutLeftReadings 0 log.rooms r.long.items (Some left) (Some right)
stocked points points' tape inputs outputs r log left right e n k room h =
    let count : inputs ≡ length (inputs_of points) = n ∙ ap (λ (ps : List Point). length (inputs_of ps)) e in
    let number : outputs ≡ length (outputs_of points) = k ∙ ap (λ (ps : List Point). length (outputs_of ps)) e in
    record {
      within = omega arith;
      slots = (search rules, search rules);
      long = room.long;
      rooms = λ fed. h ∙ ap (λ (x : ℕ). map (room_of x outputs) tape.scans) count ∙ ap (λ (x : ℕ). map (room_of (length (inputs_of points)) x) tape.scans) number;
    }
