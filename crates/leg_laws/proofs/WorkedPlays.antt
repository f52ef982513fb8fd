-- Plays worked by computing.
use Rattle.std.proofs.Common.{◌≡◌, ℕ, ℤ, pos, [], ◌∷◌, List, map, Option, option_map, refl, sym, ap, ◌∙◌}
use Rattle.tri_base.specs.declared.judged.Judged.{Judged}
use Rattle.tri_base.specs.declared.leg.Leg.{Leg}
use Rattle.tri_base.specs.declared.leg.Leg.TheVariants.{A, B, C}
use Rattle.tri_base.specs.declared.leg.Triple.{Triple}
use Rattle.tri_base.specs.Legs.{leg_part}
use Rattle.engine_face.specs.declared.verdict.Verdict.{Verdict}
use Rattle.fault_history.specs.Notes.{EndingData, NoteData}
use Rattle.script_text.specs.LegScans.{scan_of}
use Rattle.script_text.specs.ScriptValue.{ScriptValue}
use Rattle.leg_packet.specs.Sheets.{Sheet, pairs_of, sheet_of}
use Rattle.plant_script.specs.Countdown.{recovery_countdown}
use Rattle.plant_script.specs.SingleTexts.{text_after}
use Rattle.single_controller.specs.Controller.{controller_after}
use Rattle.leg_laws.specs.Good.{good_run, scans_since}
use Rattle.leg_laws.specs.States.{State, Running}
use Rattle.leg_laws.specs.FaultLines.{acted_all}
use Rattle.leg_laws.specs.ChangePoint.{change_point, prepared}
use Rattle.leg_laws.specs.HalfScans.{half_scan}
use Rattle.leg_laws.specs.Closing.{closed, judged_of, learned_of}
use Rattle.leg_laws.specs.Endings.{state_ending}
use Rattle.leg_laws.specs.Plays.{play_of}
use Rattle.leg_laws.specs.ThreeScans.{half_at, scans_behind}
use Rattle.leg_laws.specs.WorkedPlays.{ChangedProgram, FalseResult, MuteLeg, OneScan, OneWindow, PokedLeg, PokedRing, PokedTwice, ReplacedLeg, Scheduled, SwappedLeg, TenWindows, TwoFaced, changed_program, changes, endings, false_result, for_all, mute_leg, notes_in, of_legs, one_scan, one_window, poked_leg, poked_ring, poked_soon, poked_twice, programs, replaced_leg, states, swapped_leg, ten_windows, text_of, two_faced}
use Rattle.leg_laws.specs.WorkedLines.{LinesInOrder}
use Rattle.leg_laws.proofs.Traces.{states_of, traced, traced_is}

-- The notes of a trace.
abbrev trace : ScriptValue → ℕ → Leg → List NoteData
trace v k leg = (leg_part (traced programs (play_of v) k) leg).notes

-- What is read off the notes of a trace is read off the notes of the play.
worked : {T : Type 0} (f : List NoteData → T) (v : ScriptValue) (k : ℕ) (x : Triple T)
    → of_legs (λ leg. f (trace v k leg)) ≡ x → of_legs (λ leg. f (notes_in v k leg)) ≡ x
worked f v k x e = (λ i. of_legs (λ leg. f (sym (traced_is programs (play_of v) k leg) i).notes)) ∙ e

-- The same of one leg.
worked_of : {T : Type 0} (f : List NoteData → T) (v : ScriptValue) (k : ℕ) (leg : Leg) (x : T)
    → f (trace v k leg) ≡ x → f (notes_in v k leg) ≡ x
worked_of f v k leg x e = (λ i. f (sym (traced_is programs (play_of v) k leg) i).notes) ∙ e

-- And of the states.
ended : (v : ScriptValue) (k : ℕ) (x : Triple EndingData)
    → of_legs (λ leg. state_ending (states_of (traced programs (play_of v) k) leg)) ≡ x → endings v k ≡ x
ended v k x e = (λ i. of_legs (λ leg. state_ending (sym (traced_is programs (play_of v) k leg) i).state)) ∙ e

stand : (v : ScriptValue) (k : ℕ) (x : Triple State)
    → of_legs (states_of (traced programs (play_of v) k)) ≡ x → states v k ≡ x
stand v k x e = (λ i. of_legs (λ leg. (sym (traced_is programs (play_of v) k leg) i).state)) ∙ e

abbrev judged : List NoteData → List Judged
judged notes = map (λ (n : NoteData). n.judged) notes

abbrev voted : List NoteData → List (List ℤ)
voted notes = map (λ (n : NoteData). n.time ∷ n.values) notes

abbrev driven : List NoteData → List (Option (List ℤ))
driven notes = map (λ (n : NoteData). n.drive) notes

abbrev asked : List NoteData → List (Option Verdict)
asked notes = map (λ (n : NoteData). n.verdict) notes

pub one_scan_worked : OneScan
unfolding traced scan_of acted_all change_point prepared half_scan closed judged_of learned_of pairs_of
one_scan_worked = record {
  judged = worked judged one_scan 1 _ refl;
  voted = worked voted one_scan 1 _ refl;
  driven = worked driven one_scan 1 _ refl;
  ended = ended one_scan 1 _ refl;
}

pub scheduled_worked : Scheduled
unfolding scan_of acted_all change_point prepared half_scan closed judged_of learned_of pairs_of
scheduled_worked = record { two_puts = refl; early_take = refl; full_box = refl; whole = refl; done = refl }

pub mute_leg_worked : MuteLeg
unfolding traced scan_of acted_all change_point prepared half_scan closed judged_of learned_of pairs_of
mute_leg_worked = record {
  judged = worked judged mute_leg 1 _ refl;
  voted = worked voted mute_leg 1 _ refl;
  driven = worked driven mute_leg 1 _ refl;
}

poked_good : record { text = text_of 104; words = pos 1 ∷ pos 1 ∷ pos 7 ∷ []; epoch = 0; turn = 1 }
    ≡ good_run programs poked_leg 7
unfolding controller_after scans_since text_after scan_of
poked_good = refl

pub poked_leg_worked : PokedLeg
unfolding traced scan_of acted_all change_point prepared half_scan closed judged_of learned_of pairs_of
poked_leg_worked = record {
  judged = worked judged poked_leg 7 _ refl;
  driven = worked_of driven poked_leg 7 B _ refl;
  good = stand poked_leg 7 _ refl ∙ (λ i. for_all (Running (poked_good i)));
  ended = ended poked_leg 7 _ refl;
}

-- And of the changes.
abbrev told : ScriptValue → ℕ → (Leg → State) → Triple (Option (List (ℕ × ℤ)))
told v k states = of_legs (λ leg. option_map (λ (s : Sheet). s.pairs) (sheet_of
    (half_at programs v.points (scans_behind (play_of v) k) states leg).own))

changed : (v : ScriptValue) (k : ℕ) (x : Triple (Option (List (ℕ × ℤ))))
    → told v k (states_of (traced programs (play_of v) k)) ≡ x → changes v k ≡ x
changed v k x e = (λ i. told v k (λ y. (sym (traced_is programs (play_of v) k y) i).state)) ∙ e

pub poked_ring_worked : PokedRing
unfolding traced scan_of acted_all change_point prepared half_scan closed judged_of learned_of pairs_of
poked_ring_worked = record {
  changed = changed poked_ring 2 _ refl;
  judged = worked judged poked_ring 3 _ refl;
}

replaced_good : record { text = text_of 130; words = pos 0 ∷ pos 0 ∷ pos 13 ∷ pos 3 ∷ []; epoch = 1; turn = 1 }
    ≡ good_run programs replaced_leg 6
unfolding controller_after scans_since text_after scan_of
replaced_good = refl

pub replaced_leg_worked : ReplacedLeg
unfolding traced scan_of acted_all change_point prepared half_scan closed judged_of learned_of pairs_of
replaced_leg_worked = record {
  judged = worked judged replaced_leg 6 _ refl;
  asked = worked asked replaced_leg 3 _ refl;
  good = stand replaced_leg 6 _ refl ∙ (λ i. for_all (Running (replaced_good i)));
  ended = ended replaced_leg 6 _ refl;
}

pub two_faced_worked : TwoFaced
unfolding traced scan_of acted_all change_point prepared half_scan closed judged_of learned_of pairs_of
two_faced_worked = record {
  judged = worked judged two_faced 3 _ refl;
  voted = worked_of voted two_faced 3 A _ refl;
  split = worked_of voted two_faced 3 C _ refl;
  ended = ap (λ t. t.c) (ended two_faced 3 _ refl);
}

pub false_result_worked : FalseResult
unfolding traced scan_of acted_all change_point prepared half_scan closed judged_of learned_of pairs_of
false_result_worked = record { judged = worked judged false_result 3 _ refl }

pub one_window_worked : OneWindow
unfolding traced scan_of acted_all change_point prepared half_scan closed judged_of learned_of pairs_of
one_window_worked = record {
  judged = worked judged one_window 2 _ refl;
  voted = worked voted one_window 2 _ refl;
  driven = worked driven one_window 2 _ refl;
  ended = ended one_window 2 _ refl;
}

pub changed_program_worked : ChangedProgram
unfolding traced scan_of acted_all change_point prepared half_scan closed judged_of learned_of pairs_of
changed_program_worked = record {
  asked = worked asked changed_program 3 _ refl;
  refused = ended changed_program 2 _ refl;
  accepted = ended changed_program 3 _ refl;
}

pub swapped_leg_worked : SwappedLeg
unfolding traced scan_of acted_all change_point prepared half_scan closed judged_of learned_of pairs_of
swapped_leg_worked = record {
  changed = ended swapped_leg 2 _ refl;
  judged = worked judged swapped_leg 4 _ refl;
  told = changed swapped_leg 2 _ refl;
}

counted_down : (recovery_countdown programs poked_twice A 2 ≡ 9) × (recovery_countdown programs poked_twice A 10 ≡ 1)
    × (recovery_countdown programs poked_twice A 11 ≡ 0) × (recovery_countdown programs poked_twice B 11 ≡ 9)
unfolding recovery_countdown text_after scan_of
counted_down = (refl, refl, refl, refl)

both_counted : (recovery_countdown programs poked_soon A 5 ≡ 6) × (recovery_countdown programs poked_soon B 5 ≡ 9)
unfolding recovery_countdown text_after scan_of
both_counted = (refl, refl)

pub poked_twice_worked : PokedTwice
unfolding traced scan_of acted_all change_point prepared half_scan closed judged_of learned_of pairs_of
poked_twice_worked = record {
  first = counted_down.0;
  last = counted_down.1;
  over = counted_down.2;
  second = counted_down.3;
  both = both_counted;
  judged = worked judged poked_twice 12 _ refl;
}

pub ten_windows_worked : TenWindows
unfolding traced scan_of acted_all change_point prepared half_scan closed judged_of learned_of pairs_of
ten_windows_worked = record { judged = worked_of judged ten_windows 15 C _ refl }

pub lines_worked : LinesInOrder
unfolding acted_all
lines_worked = record {
  poke = refl;
  past = refl;
  no_words = refl;
  undone = refl;
  behind = refl;
  anew = refl;
  counted = refl;
  full = refl;
}
