-- The end of a scan.
use Rattle.std.proofs.Common.{◌≡◌, ◌≤◌, ◌<◌, ℕ, ◌+◌, ℤ, Bool, true, false, List, [], ◌∷◌, ◌++◌, length, map, drop, Option, Some, None, refl, sym, ap, ◌∙◌, subst, arith}
use Rattle.tri_base.specs.declared.leg.Leg.{Leg}
use Rattle.tri_base.specs.declared.leg.Triple.{Triple}
use Rattle.tri_base.specs.declared.point.Point.{Point}
use Rattle.engine_face.specs.declared.verdict.Verdict.{Verdict}
use Rattle.engine_face.specs.Meaning.{Meaning}
use Rattle.fault_history.specs.Notes.{NoteData}
use Rattle.input_legs.specs.VotedSheets.{VotedSheet}
use Rattle.input_legs.specs.Marks.{has_mark}
use Rattle.script_text.specs.LegScans.{LegScan, TapeValue, scan_at}
use Rattle.leg_laws.specs.declared.place.Place.{Place}
use Rattle.leg_laws.specs.declared.place.Place.TheVariants as p
use Rattle.leg_laws.specs.States.{State}
use Rattle.leg_laws.specs.HalfScans.{HalfScan}
use Rattle.leg_laws.specs.Closing.{Closed, closed, scan_note}
use Rattle.leg_laws.specs.Configs.{LegValue, PutLeftReadings, TakeRightResult}
use Rattle.leg_laws.specs.Needs.{after_take}
use Rattle.leg_laws.specs.ExchangeSteps.{Takes}
use Rattle.leg_parts.specs.declared.leg_state.Closing.{Closing}
use Rattle.leg_parts.specs.Closings.{Closes, closed_with, drive_with}
use Rattle.leg_parts.specs.Logs.{HoldsNext, RoomValue, drive_length, drive_room, room_of}
use Rattle.leg_parts.specs.Results.{ResultValue, half_with}
use Rattle.leg_core.specs.Inner.Fit.{config_kept}
use Rattle.leg_core.proofs.Ahead.{rooms_ahead}
use Rattle.leg_core.proofs.Stands.{true_is_not_false}

-- what is driven fits the room for it
pub drive_fits : (line : Option (List ℤ)) (outputs : List ℤ) (drives : Bool) (n : ℕ) → length outputs ≤ n
    → drive_length (drive_with line outputs drives) ≤ drive_room n line
drive_fits None outputs true n h = h
drive_fits None outputs false n h = omega arith
drive_fits (Some words) outputs true n h = omega arith
drive_fits (Some words) outputs false n h = omega arith

-- the room of a scan's note is the next one
pub holds_next : (tape : TapeValue) (k inputs outputs values drive : ℕ) (rooms : List RoomValue)
    → k < length tape.scans → rooms ≡ map (room_of inputs outputs) (drop k tape.scans)
    → values ≤ inputs → drive ≤ drive_room outputs (scan_at tape (k + 1)).drive
    → HoldsNext values drive rooms
holds_next tape k inputs outputs values drive rooms h e v d =
    subst (λ (rs : List RoomValue). HoldsNext values drive rs) (sym (e ∙ rooms_ahead tape k inputs outputs h)) (v, d)

ending : (m : Meaning) (leg : Leg) (l : LegScan) (half : HalfScan) (left right : List ℤ) (after : State) (c : Closing)
    → Closes m leg half.own left right half.state after c
    → closed m leg l half left right ≡ closed_with l half.outputs after c
unfolding closed
ending m leg l half left right after c closes = closes l half refl

noted : (half : HalfScan) (end end' : Closed) (marked : Bool) → end ≡ end' → scan_note half end marked ≡ scan_note half end' marked
noted half end end' marked e = ap (λ (x : Closed). scan_note half x marked) e

concluded_at : (m : Meaning) (leg : Leg) (points : List Point) (tape : TapeValue) (finished given : ℕ)
    (notes : List NoteData) (marks : List (Triple ℕ)) (state after : State) (verdict : Option Verdict)
    (voted : VotedSheet) (r : ResultValue) (left packet : List ℤ) (c : Closing)
    → Closes m leg r.own left packet state after c
    → ◌≡◌ {A = LegValue} (record {
      leg = leg;
      points = points;
      tape = tape;
      finished = finished + 1;
      given = given;
      notes = notes ++ record {
        verdict = verdict;
        time = voted.time;
        values = voted.values;
        judged = c.judged;
        drive = drive_with (scan_at tape (finished + 1)).drive r.outputs c.drives;
        arith = r.flag;
        marked = has_mark marks;
      } ∷ [];
      marks = marks;
      config = PutLeftReadings after;
    }) (after_take m (record {
      leg = leg;
      points = points;
      tape = tape;
      finished = finished;
      given = given;
      notes = notes;
      marks = marks;
      config = TakeRightResult (half_with state verdict voted r) left;
    }) packet)
concluded_at m leg points tape finished given notes marks state after verdict voted r left packet c closes =
    let l = scan_at tape (finished + 1) in
    let half = half_with state verdict voted r in
    let end = sym (ending m leg l half left packet after c closes) in
    ap (λ (x : Closed). record {
      leg = leg;
      points = points;
      tape = tape;
      finished = finished + 1;
      given = given;
      notes = notes ++ scan_note half x (has_mark marks) ∷ [];
      marks = marks;
      config = PutLeftReadings x.state;
    }) end

-- the last take of a leg that is fed
pub concluded : (m : Meaning) (leg : Leg) (points : List Point) (tape : TapeValue) (finished given given' : ℕ)
    (notes notes' : List NoteData) (marks : List (Triple ℕ)) (starved : Bool) (place : Place) (state after : State)
    (verdict : Option Verdict) (voted : VotedSheet) (r : ResultValue) (left packet : List ℤ) (c : Closing)
    → starved ≡ false → place ≡ p.TakeRightResult
    → Closes m leg r.own left packet state after c → given' ≡ given
    → notes' ≡ notes ++ record {
      verdict = verdict;
      time = voted.time;
      values = voted.values;
      judged = c.judged;
      drive = drive_with (scan_at tape (finished + 1)).drive r.outputs c.drives;
      arith = r.flag;
      marked = has_mark marks;
    } ∷ []
    → Takes m (record {
      leg = leg;
      points = points;
      tape = tape;
      finished = finished;
      given = given;
      notes = notes;
      marks = marks;
      config = config_kept starved place state verdict voted r left;
    }) (record {
      leg = leg;
      points = points;
      tape = tape;
      finished = finished + 1;
      given = given';
      notes = notes';
      marks = marks;
      config = config_kept starved p.PutLeftReadings after verdict voted r left;
    }) packet
concluded m leg points tape finished given given' notes notes' marks starved place state after verdict voted r left packet c e f closes g n =
    let same = concluded_at m leg points tape finished given notes marks state after verdict voted r left packet c closes in
    let made : Takes m (record { leg = leg; points = points; tape = tape; finished = finished; given = given; notes = notes; marks = marks; config = config_kept false p.TakeRightResult state verdict voted r left }) (record { leg = leg; points = points; tape = tape; finished = finished + 1; given = given'; notes = notes'; marks = marks; config = config_kept false p.PutLeftReadings after verdict voted r left }) packet =
    record {
      fed = λ q. ap (λ (x : ℕ). record { leg = leg; points = points; tape = tape; finished = finished + 1; given = x; notes = notes'; marks = marks; config = PutLeftReadings after }) g
          ∙ ap (λ (x : List NoteData). record { leg = leg; points = points; tape = tape; finished = finished + 1; given = given; notes = x; marks = marks; config = PutLeftReadings after }) n
          ∙ same;
      out = λ q. absurd (true_is_not_false (sym q));
    } in
    subst (λ (b : Bool). Takes m (record { leg = leg; points = points; tape = tape; finished = finished; given = given; notes = notes; marks = marks; config = config_kept b place state verdict voted r left }) (record { leg = leg; points = points; tape = tape; finished = finished + 1; given = given'; notes = notes'; marks = marks; config = config_kept b p.PutLeftReadings after verdict voted r left }) packet) (sym e)
    (subst (λ (q : Place). Takes m (record { leg = leg; points = points; tape = tape; finished = finished; given = given; notes = notes; marks = marks; config = config_kept false q state verdict voted r left }) (record { leg = leg; points = points; tape = tape; finished = finished + 1; given = given'; notes = notes'; marks = marks; config = config_kept false p.PutLeftReadings after verdict voted r left }) packet) (sym f) made)
