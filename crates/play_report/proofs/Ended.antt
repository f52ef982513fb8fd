-- Legs in step that are done have played.
use Rattle.std.proofs.Common.{◌≡◌, ◌∙◌, ℕ, ◌+◌, ◌-◌, ◌≤◌, ◌<◌, false, true, Bool, ◌||◌, refl, true≢false, List, length, take, drop, get_or, Some, sym, ap, arith}
use Rattle.std.proofs.lemmas.List.{get_or-drop, get_or-take}
use Rattle.tri_base.specs.declared.leg.Leg.{Leg}
use Rattle.tri_base.specs.declared.leg.Leg.TheVariants.{A, B, C}
use Rattle.tri_base.specs.declared.leg.Triple.{Triple}
use Rattle.tri_base.specs.declared.point.Point.{Point}
use Rattle.tri_base.specs.Legs.{leg_part}
use Rattle.chassis.specs.Points.{inputs_of}
use Rattle.engine_face.specs.Meaning.{Meaning}
use Rattle.fault_history.specs.Notes.{NoteData, no_note}
use Rattle.script_text.specs.ScriptValue.{ScriptValue}
use Rattle.plant_script.proofs.Plays.{tape_length}
use Rattle.leg_laws.specs.declared.need.Need.TheVariants.{Done}
use Rattle.leg_laws.specs.Configs.{LegValue, is_starved, need_of, noted}
use Rattle.leg_laws.specs.Endings.{ending_of, state_ending}
use Rattle.leg_laws.specs.InStep.{IsInStep, NoneStarved}
use Rattle.leg_laws.specs.Plays.{play_of, scans_of}
use Rattle.leg_laws.specs.Rounds.{after_scans, state_after}
use Rattle.majority_laws.specs.Majority.{note_at}
use Rattle.play_report.specs.Played.{HaveEnded, HavePlayed}
use Rattle.play_report.specs.Starved.{some_starve}
use Rattle.play_report.specs.Told.{note_of_scan}

scans_are : (v : ScriptValue) (leg : Leg) → scans_of (play_of v) leg ≡ v.scans
scans_are v A = tape_length v A
scans_are v B = tape_length v B
scans_are v C = tape_length v C

-- a note that was not taken away
front : (notes all : List NoteData) (scan away : ℕ) → 1 ≤ scan → away ≡ 0 → take (scan - away) notes ≡ drop away all
    → get_or notes (scan - 1) no_note ≡ get_or all (scan - 1) no_note
front notes all scan away first none e =
    let within : scan - 1 < scan - away = omega (arith, first, none) in
    let at : away + (scan - 1) ≡ scan - 1 = omega (arith, none) in
    sym (get_or-take (scan - away) notes (scan - 1) no_note within)
    ∙ ap (λ (ns : List NoteData). get_or ns (scan - 1) no_note) e
    ∙ get_or-drop away all (scan - 1) no_note
    ∙ ap (λ (n : ℕ). get_or all n no_note) at

module _ (m : Meaning) (v : ScriptValue) (legs : Triple LegValue) (is : IsInStep m (play_of v) (leg_part legs))
    (fed : NoneStarved (leg_part legs)) (done : (leg : Leg) → need_of (leg_part legs leg) ≡ Done)
    (points : (leg : Leg) → (leg_part legs leg).points ≡ v.points) where
  count : (leg : Leg) → noted (leg_part legs leg) ≡ v.scans
  count leg = (is.fed fed leg).number ∙ (is.ends fed leg (done leg)).finished ∙ scans_are v leg

  marks : (leg : Leg) → (leg_part legs leg).marks ≡ (after_scans m (play_of v) leg v.scans).marks
  marks leg =
      (is.ends fed leg (done leg)).marks
      ∙ ap (λ (n : ℕ). (after_scans m (play_of v) leg n).marks) (scans_are v leg)

  inputs : (leg : Leg) → length (inputs_of v.points) ≤ length (inputs_of (leg_part legs leg).points)
  inputs leg = omega (arith, ap (λ (ps : List Point). length (inputs_of ps)) (points leg))

  ending : (leg : Leg) → ending_of (leg_part legs leg).config ≡ Some (state_ending (state_after m (play_of v) v.scans leg))
  ending leg =
      (is.ends fed leg (done leg)).ending
      ∙ ap (λ (n : ℕ). Some (state_ending (state_after m (play_of v) n leg))) (scans_are v leg)

  pub have_ended : HaveEnded m v legs
  have_ended = record {
    inputs = record { a = inputs A; b = inputs B; c = inputs C };
    tables = λ i. record { a = marks A i; b = marks B i; c = marks C i };
    ends = record { a = ending A; b = ending B; c = ending C };
  }

  module _ (given : (leg : Leg) → (leg_part legs leg).given ≡ 0) where
    note : (leg : Leg) (scan : ℕ) → 1 ≤ scan → scan ≤ v.scans
        → note_of_scan (leg_part legs leg).notes scan ≡ note_at m v scan leg
    note leg scan first last =
        front (leg_part legs leg).notes (after_scans m (play_of v) leg scan).notes scan (leg_part legs leg).given first
        (given leg) (is.early scan (λ (x : Leg). omega (arith, count x, last)) leg)

    pub have_played : HavePlayed m v legs
    have_played = record {
      count_a = omega (arith, count A, given A);
      count_b = omega (arith, count B, given B);
      count_c = omega (arith, count C, given C);
      notes = note;
      ended = have_ended;
    }

none_of : (legs : Triple LegValue) (a b c : Bool) → is_starved legs.a ≡ a → is_starved legs.b ≡ b → is_starved legs.c ≡ c
    → (a || (b || c)) ≡ false → NoneStarved (leg_part legs)
none_of legs true b c ea eb ec h = absurd (true≢false h)
none_of legs false true c ea eb ec h = absurd (true≢false h)
none_of legs false false true ea eb ec h = absurd (true≢false h)
none_of legs false false false ea eb ec h = by
  where
    by : NoneStarved (leg_part legs)
    by A = ea
    by B = eb
    by C = ec

-- where no leg found no memory, each has found it
pub none_starves : (legs : Triple LegValue) → some_starve legs ≡ false → NoneStarved (leg_part legs)
unfolding some_starve
none_starves legs h = none_of legs (is_starved legs.a) (is_starved legs.b) (is_starved legs.c) refl refl refl h
