-- A leg between two rounds, cut into needs: the takes.
use Rattle.std.proofs.Common.{◌≡◌, ℕ, ◌+◌, ◌*◌, ◌/◌, ◌%◌, ◌≤◌, ℤ, false, List, [], ◌∷◌, length, drop, refl, sym, arith}
use Rattle.std.proofs.lemmas.List.{length-append, drop-append-le}
use Rattle.tri_base.specs.declared.leg.Leg.{Leg}
use Rattle.tri_base.specs.declared.leg.Side.TheVariants.{Left, Right}
use Rattle.engine_face.specs.Meaning.{Meaning}
use Rattle.leg_laws.specs.declared.need.Need.TheVariants.{Take}
use Rattle.leg_laws.specs.declared.place.Place.{Place}
use Rattle.leg_laws.specs.declared.place.Place.TheVariants as p
use Rattle.script_text.specs.LegScans.{LegScan}
use Rattle.input_legs.specs.Marks.{has_mark}
use Rattle.fault_history.specs.Notes.{NoteData}
use Rattle.leg_laws.specs.Closing.{closed, scan_note}
use Rattle.leg_laws.specs.Configs.{starves}
use Rattle.leg_laws.specs.Places.{need_at, next_place, finished_after, served}
use Rattle.leg_laws.specs.Needs.{config_after_take, marks_after_take, notes_after_take}
use Rattle.leg_laws.specs.Plays.{Play, scan_behind}
use Rattle.leg_laws.specs.Rounds.{Standing, Stand, Before, Within, round_at}
use Rattle.leg_laws.specs.SentTaken.{config_of}
use Rattle.leg_laws.specs.Counts.{one_from}
use Rattle.tri_base.specs.declared.leg.Triple.{Triple}
use Rattle.tri_base.specs.declared.point.Point.{Point}
use Rattle.leg_laws.proofs.Moves.{put_is_take, take_other, true_is_false}

-- a take from the left keeps the packet, and nothing else changes
pub record LeftTake (m : Meaning) (points : List Point) (leg : Leg) (l : LegScan) (left packet : List ℤ)
    (place : Place) (stand : Stand) : Type 0 where
  pub config : config_after_take m points leg l packet (config_of m l left place stand) ≡ config_of m l packet
      (next_place place) stand
  pub marks : (marks : List (Triple ℕ))
      → marks_after_take points leg l packet marks (config_of m l left place stand) ≡ marks
  pub notes : (marks : List (Triple ℕ)) (notes : List NoteData)
      → notes_after_take m leg l packet marks notes (config_of m l left place stand) ≡ notes
  pub finished : (n : ℕ) → finished_after place n ≡ n
  pub rounds : served (next_place place) / 4 ≡ served place / 4
  pub one : one_from 1 (served (next_place place) % 4) ≡ one_from 1 (served place % 4)
  pub two : one_from 2 (served (next_place place) % 4) ≡ one_from 2 (served place % 4)
  pub three : one_from 3 (served (next_place place) % 4) ≡ one_from 3 (served place % 4) + 1
  pub before : one_from 3 (served place % 4) ≡ 0

pub left_take : (m : Meaning) (points : List Point) (leg : Leg) (l : LegScan) (left packet : List ℤ) (place : Place)
    (stand : Stand)
    → need_at place ≡ Take Left → starves (config_of m l left place stand) ≡ false
    → LeftTake m points leg l left packet place stand
left_take m points leg l left packet p.TakeLeftReadings (Before state) n f = record {
  config = refl;
  marks = λ x. refl;
  notes = λ x y. refl;
  finished = λ x. refl;
  rounds = refl;
  one = refl;
  two = refl;
  three = refl;
  before = refl;
}
left_take m points leg l left packet p.TakeLeftResult (Within half) n f = record {
  config = refl;
  marks = λ x. refl;
  notes = λ x y. refl;
  finished = λ x. refl;
  rounds = refl;
  one = refl;
  two = refl;
  three = refl;
  before = refl;
}
left_take m points leg l left packet p.TakeLeftReadings (Within half) n f = absurd (true_is_false f)
left_take m points leg l left packet p.TakeLeftResult (Before state) n f = absurd (true_is_false f)
left_take m points leg l left packet p.PutLeftReadings stand n f = absurd (put_is_take Left Left n)
left_take m points leg l left packet p.PutRightReadings stand n f = absurd (put_is_take Right Left n)
left_take m points leg l left packet p.TakeRightReadings stand n f = absurd (take_other (sym n))
left_take m points leg l left packet p.PutLeftResult stand n f = absurd (put_is_take Left Left n)
left_take m points leg l left packet p.PutRightResult stand n f = absurd (put_is_take Right Left n)
left_take m points leg l left packet p.TakeRightResult stand n f = absurd (take_other (sym n))

-- a take from the right ends the round
pub record RightTake (m : Meaning) (play : Play) (leg : Leg) (s : Standing) (left packet : List ℤ) (place : Place)
    (stand : Stand) : Type 0 where
  pub config : (l : LegScan) (other : List ℤ)
      → config_after_take m play.points leg (scan_behind play leg s.finished) packet
      (config_of m (scan_behind play leg s.finished) left place stand)
      ≡ config_of m l other (next_place place) (round_at m play leg s left packet stand).stand
  pub marks : marks_after_take play.points leg (scan_behind play leg s.finished) packet s.marks
      (config_of m (scan_behind play leg s.finished) left place stand) ≡
      (round_at m play leg s left packet stand).marks
  pub notes : (given : ℕ) → given ≤ length s.notes
      → notes_after_take m leg (scan_behind play leg s.finished) packet s.marks (drop given s.notes)
      (config_of m (scan_behind play leg s.finished) left place stand) ≡ drop given
      (round_at m play leg s left packet stand).notes
  pub given : (given : ℕ) → given ≤ length s.notes → given ≤ length (round_at m play leg s left packet stand).notes
  pub finished : finished_after place s.finished ≡ (round_at m play leg s left packet stand).finished
  pub rounds : (n : ℕ) → 2 * finished_after place n + served (next_place place) / 4 ≡ 2 * n + served place / 4 + 1
  pub one : one_from 1 (served place % 4) ≡ 1
  pub two : one_from 2 (served place % 4) ≡ 1
  pub three : one_from 3 (served place % 4) ≡ 1
  pub none : served (next_place place) % 4 ≡ 0

pub right_take : (m : Meaning) (play : Play) (leg : Leg) (s : Standing) (left packet : List ℤ) (place : Place)
    (stand : Stand)
    → need_at place ≡ Take Right → starves (config_of m (scan_behind play leg s.finished) left place stand) ≡ false
    → RightTake m play leg s left packet place stand
right_take m play leg s left packet p.TakeRightReadings (Before state) n f = record {
  config = λ l other. refl;
  marks = refl;
  notes = λ given h. refl;
  given = λ given h. h;
  finished = refl;
  rounds = λ n. omega arith;
  one = refl;
  two = refl;
  three = refl;
  none = refl;
}
right_take m play leg s left packet p.TakeRightResult (Within half) n f =
    let note = scan_note half (closed m leg (scan_behind play leg s.finished) half left packet) (has_mark s.marks) in
    record {
      config = λ l other. refl;
      marks = refl;
      notes = λ given h. sym (drop-append-le given s.notes (note ∷ []) h);
      given = λ given h. omega (arith, h, length-append s.notes (note ∷ []));
      finished = refl;
      rounds = λ n. omega arith;
      one = refl;
      two = refl;
      three = refl;
      none = refl;
    }
right_take m play leg s left packet p.TakeRightReadings (Within half) n f = absurd (true_is_false f)
right_take m play leg s left packet p.TakeRightResult (Before state) n f = absurd (true_is_false f)
right_take m play leg s left packet p.PutLeftReadings stand n f = absurd (put_is_take Left Right n)
right_take m play leg s left packet p.PutRightReadings stand n f = absurd (put_is_take Right Right n)
right_take m play leg s left packet p.TakeLeftReadings stand n f = absurd (take_other n)
right_take m play leg s left packet p.PutLeftResult stand n f = absurd (put_is_take Left Right n)
right_take m play leg s left packet p.PutRightResult stand n f = absurd (put_is_take Right Right n)
right_take m play leg s left packet p.TakeLeftResult stand n f = absurd (take_other n)
