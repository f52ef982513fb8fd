-- The vote and the run.
use Rattle.std.proofs.Common.{◌≡◌, ℕ, ◌+◌, ℤ, Bool, false, List, Option, sym, ap, ◌∙◌, subst}
use Rattle.tri_base.specs.declared.leg.Leg.{Leg}
use Rattle.tri_base.specs.declared.leg.Leg.TheVariants.{A, B, C}
use Rattle.tri_base.specs.declared.leg.Side.TheVariants.{Right}
use Rattle.tri_base.specs.declared.leg.Triple.{Triple}
use Rattle.tri_base.specs.declared.point.Point.{Point}
use Rattle.tri_base.specs.Legs.{placed}
use Rattle.chassis.specs.Points.{inputs_of}
use Rattle.engine_face.specs.declared.verdict.Verdict.{Verdict}
use Rattle.engine_face.specs.Meaning.{Meaning}
use Rattle.fault_history.specs.Notes.{NoteData}
use Rattle.leg_packet.specs.Readings.{Readings, readings_of}
use Rattle.vote_analog.specs.Middle.{mid_of}
use Rattle.input_legs.specs.VotedSheets.{VotedSheet, read_three, times_of, vote_sheet_of, voted_from}
use Rattle.input_legs.specs.Marks.{counted_from, note_of}
use Rattle.script_text.specs.LegScans.{LegScan, TapeValue, scan_at}
use Rattle.plant_script.specs.Faces.{face}
use Rattle.leg_laws.specs.declared.place.Place.{Place}
use Rattle.leg_laws.specs.declared.place.Place.TheVariants as p
use Rattle.leg_laws.specs.States.{State}
use Rattle.leg_laws.specs.HalfScans.{HalfScan, half_of, half_scan}
use Rattle.leg_laws.specs.Configs.{PutLeftResult}
use Rattle.leg_laws.specs.ExchangeSteps.{Takes}
use Rattle.leg_parts.specs.Results.{ResultValue, half_with}
use Rattle.leg_core.specs.Inner.Fit.{config_kept}
use Rattle.leg_core.proofs.Stands.{true_is_not_false}

-- packets that read alike are read alike in any leg's place
read_alike : (points : List Point) (leg : Leg) (own own' left right : List ℤ) → readings_of points own ≡ readings_of points own'
    → read_three points (placed leg own left right) ≡ read_three points (placed leg own' left right)
read_alike points A own own' left right e = ap (λ (r : Option Readings). record { a = r; b = readings_of points right; c = readings_of points left }) e
read_alike points B own own' left right e = ap (λ (r : Option Readings). record { a = readings_of points left; b = r; c = readings_of points right }) e
read_alike points C own own' left right e = ap (λ (r : Option Readings). record { a = readings_of points right; b = readings_of points left; c = r }) e

voted_alike : (points : List Point) (leg : Leg) (own own' left right : List ℤ) → readings_of points own ≡ readings_of points own'
    → vote_sheet_of points (placed leg own left right) ≡ vote_sheet_of points (placed leg own' left right)
voted_alike points leg own own' left right e =
    ap (λ (rs : Triple (Option Readings)). record { time = mid_of (times_of rs); values = voted_from (inputs_of points) 0 rs }) (read_alike points leg own own' left right e)

counted_alike : (points : List Point) (leg : Leg) (own own' left right : List ℤ) (marks : List (Triple ℕ)) → readings_of points own ≡ readings_of points own'
    → note_of points (placed leg own left right) marks ≡ note_of points (placed leg own' left right) marks
counted_alike points leg own own' left right marks e =
    ap (λ (rs : Triple (Option Readings)). counted_from (inputs_of points) 0 rs marks) (read_alike points leg own own' left right e)

half_is : (m : Meaning) (points : List Point) (leg : Leg) (l : LegScan) (state after : State) (verdict : Option Verdict)
    (own left packet : List ℤ) (voted : VotedSheet) (r : ResultValue)
    → readings_of points own ≡ readings_of points (face Right l)
    → voted ≡ vote_sheet_of points (placed leg own left packet)
    → half_with after verdict voted r ≡ half_of m voted verdict state
    → half_with after verdict voted r ≡ half_scan m points leg l (record { state = state; verdict = verdict }) left packet
unfolding half_scan
half_is m points leg l state after verdict own left packet voted r e v h =
    h ∙ ap (λ (x : VotedSheet). half_of m x verdict state) (v ∙ voted_alike points leg own (face Right l) left packet e)

-- the last take of the readings, of a leg that is fed
pub voted_and_run : (m : Meaning) (leg : Leg) (points : List Point) (tape : TapeValue) (finished given : ℕ)
    (notes : List NoteData) (marks marks' : List (Triple ℕ)) (starved : Bool) (place : Place) (state after : State)
    (verdict : Option Verdict) (voted voted' : VotedSheet) (r r' : ResultValue) (own left packet : List ℤ)
    → starved ≡ false → place ≡ p.TakeRightReadings
    → readings_of points own ≡ readings_of points (face Right (scan_at tape (finished + 1)))
    → voted' ≡ vote_sheet_of points (placed leg own left packet)
    → marks' ≡ note_of points (placed leg own left packet) marks
    → half_with after verdict voted' r' ≡ half_of m voted' verdict state
    → Takes m (record {
      leg = leg;
      points = points;
      tape = tape;
      finished = finished;
      given = given;
      notes = notes;
      marks = marks;
      config = config_kept starved place state verdict voted r left;
    }) (record {
      leg = leg;
      points = points;
      tape = tape;
      finished = finished;
      given = given;
      notes = notes;
      marks = marks';
      config = config_kept starved p.PutLeftResult after verdict voted' r' left;
    }) packet
voted_and_run m leg points tape finished given notes marks marks' starved place state after verdict voted voted' r r' own left packet e f same v n h =
    let l = scan_at tape (finished + 1) in
    let half = half_is m points leg l state after verdict own left packet voted' r' same v h in
    let counted = n ∙ counted_alike points leg own (face Right l) left packet marks same in
    let made : Takes m (record { leg = leg; points = points; tape = tape; finished = finished; given = given; notes = notes; marks = marks; config = config_kept false p.TakeRightReadings state verdict voted r left }) (record { leg = leg; points = points; tape = tape; finished = finished; given = given; notes = notes; marks = marks'; config = config_kept false p.PutLeftResult after verdict voted' r' left }) packet =
    record {
      fed = λ q. ap (λ (x : HalfScan). record { leg = leg; points = points; tape = tape; finished = finished; given = given; notes = notes; marks = marks'; config = PutLeftResult x }) half
          ∙ ap (λ (x : List (Triple ℕ)). record { leg = leg; points = points; tape = tape; finished = finished; given = given; notes = notes; marks = x; config = PutLeftResult (half_scan m points leg l (record { state = state; verdict = verdict }) left packet) }) counted;
      out = λ q. absurd (true_is_not_false (sym q));
    } in
    subst (λ (b : Bool). Takes m (record { leg = leg; points = points; tape = tape; finished = finished; given = given; notes = notes; marks = marks; config = config_kept b place state verdict voted r left }) (record { leg = leg; points = points; tape = tape; finished = finished; given = given; notes = notes; marks = marks'; config = config_kept b p.PutLeftResult after verdict voted' r' left }) packet) (sym e)
    (subst (λ (q : Place). Takes m (record { leg = leg; points = points; tape = tape; finished = finished; given = given; notes = notes; marks = marks; config = config_kept false q state verdict voted r left }) (record { leg = leg; points = points; tape = tape; finished = finished; given = given; notes = notes; marks = marks'; config = config_kept false p.PutLeftResult after verdict voted' r' left }) packet) (sym f) made)
