-- Plays that were worked by hand, to hold the definitions against. The programs stand in for real ones: four with the
-- discrete input START and the output PUMP, one that moves three numbers in a ring, and one without words. Own rule.
use Rattle.std.specs.Prelude.{◌≡◌, ℕ, ℤ, pos, ◌+ℤ◌, ◌==◌, false, List, [], ◌∷◌, ◌++◌, drop, length, map, replicate, Option, Some, None, option_map, slice_index_or, if◌then◌else◌}
use Rattle.tri_base.specs.declared.judged.Judged.{Judged}
use Rattle.tri_base.specs.declared.judged.Judged.TheVariants as j
use Rattle.tri_base.specs.declared.leg.Leg.{Leg}
use Rattle.tri_base.specs.declared.leg.Leg.TheVariants.{A, B, C}
use Rattle.tri_base.specs.declared.leg.Side.TheVariants.{Left}
use Rattle.tri_base.specs.declared.leg.Triple.{Triple}
use Rattle.tri_base.specs.declared.point.Point.{Point}
use Rattle.tri_base.specs.declared.point.PointKind.TheVariants.{Ai, Di, Do}
use Rattle.engine_face.specs.declared.refusal.Refusal.TheVariants.{Syntax}
use Rattle.engine_face.specs.declared.verdict.Verdict.{Verdict}
use Rattle.engine_face.specs.declared.verdict.Verdict.TheVariants as v
use Rattle.engine_face.specs.Meaning.{Meaning}
use Rattle.leg_packet.specs.Sheets.{Sheet, sheet_of}
use Rattle.fault_history.specs.Notes.{EndingData, Learns, NoteData, Runs}
use Rattle.script_text.specs.declared.moment.ScanLine.{ScanLine}
use Rattle.script_text.specs.declared.moment.ScanLine.TheVariants.{Set, Download, Mute, Poke, Replace, Swap, Read, Result}
use Rattle.script_text.specs.MomentValue.{MomentValue}
use Rattle.script_text.specs.ScriptValue.{ScriptValue}
use Rattle.plant_script.specs.Countdown.{recovery_countdown}
use Rattle.leg_laws.specs.Endings.{state_ending}
use Rattle.leg_laws.specs.Plays.{play_of}
use Rattle.leg_laws.specs.Rounds.{after_scans, state_after}
use Rattle.leg_laws.specs.ExchangeSteps.{exchange_at_start}
use Rattle.leg_laws.specs.Good.{good_run}
use Rattle.leg_laws.specs.Schedules.{stuck_from}
use Rattle.leg_laws.specs.States.{State, Running}
use Rattle.leg_laws.specs.ThreeScans.{half_at, scans_behind}

-- ---- the programs, told apart by the lengths of their texts

-- A text of so many bytes. Which ones they are doesn't matter here.
abbrev pub text_of : ℕ → List ℕ
text_of bytes = replicate bytes 80

-- The first words by the length of the text: 22 bytes and no words; START and PUMP; then K at 7; and then J at 3. Or 5
-- and three zeros, for any other length.
abbrev pub first_words : ℕ → List ℤ
first_words bytes =
    if bytes == 22 then []
    else (if bytes == 78 then pos 0 ∷ pos 0 ∷ []
    else (if bytes == 104 then pos 0 ∷ pos 0 ∷ pos 7 ∷ []
    else (if bytes == 116 then pos 0 ∷ pos 0 ∷ pos 7 ∷ []
    else (if bytes == 130 then pos 0 ∷ pos 0 ∷ pos 7 ∷ pos 3 ∷ []
    else (if bytes == 563 then replicate 23 (pos 0)
    else pos 5 ∷ pos 0 ∷ pos 0 ∷ pos 0 ∷ [])))))

-- PUMP := START, on the one input.
abbrev pub pumped : (words inputs : List ℤ) → List ℤ
pumped (start ∷ pump ∷ words) (input ∷ inputs) = input ∷ input ∷ words
pumped words inputs = words

-- K := K + 1, where a program counts.
abbrev pub counted_up : List ℤ → List ℤ
counted_up (start ∷ pump ∷ k ∷ words) = start ∷ pump ∷ (k +ℤ pos 1) ∷ words
counted_up words = words

-- X := LAST; LAST := MIDDLE; MIDDLE := FIRST; FIRST := X, of the words FIRST, MIDDLE, LAST and X.
abbrev pub moved_on : List ℤ → List ℤ
moved_on (one ∷ two ∷ three ∷ x ∷ words) = three ∷ one ∷ two ∷ three ∷ words
moved_on words = words

-- A scan by the length of the text.
abbrev pub words_after : ℕ → (words inputs : List ℤ) → List ℤ
words_after bytes words inputs =
    if bytes == 22 then words
    else (if bytes == 78 then pumped words inputs
    else (if bytes == 104 then pumped words inputs
    else (if bytes == 116 then counted_up (pumped words inputs)
    else (if bytes == 130 then counted_up (pumped words inputs)
    else (if bytes == 563 then inputs ++ drop (length inputs) words
    else moved_on words)))))

-- PUMP, where there is an input.
abbrev pub outputs_after : (words inputs : List ℤ) → List ℤ
outputs_after words [] = []
outputs_after words (input ∷ inputs) = slice_index_or words 1 (pos 0) ∷ []

-- What the programs mean. A text without bytes is none. A download keeps the words, and J is new.
abbrev pub programs : Meaning
programs = record {
  builds = λ text. if length text == 0 then Some (Syntax 0) else None;
  unknown_name = λ old d. None;
  name_twice = λ old d. None;
  changed_kind = λ old d. None;
  word_count = λ text. length (first_words (length text));
  first = λ text. first_words (length text);
  carried = λ old d words. words ++ pos 3 ∷ [];
  scanned = λ text words inputs dt. record {
    words = words_after (length text) words inputs;
    outputs = outputs_after (words_after (length text) words inputs) inputs;
    flag = false;
  };
  stored = λ text words inputs dt. [];
}

-- ---- the scripts

-- The points DI START and DO PUMP.
abbrev pub two_points : List Point
two_points =
    record { name = 83 ∷ []; kind = Di; low = pos 0; high = pos 1; tolerance = pos 0 }
    ∷ record { name = 80 ∷ []; kind = Do; low = pos 0; high = pos 1; tolerance = pos 0 } ∷ []

-- The lines of a scan.
abbrev pub at : ℕ → List ScanLine → MomentValue
at scan lines = record { scan = scan; lines = lines; renames = []; asks = [] }

-- SET START, for each leg.
abbrev pub start : (a b c : ℤ) → ScanLine
start a b c = Set (record { point = 0; reads = record { a = a; b = b; c = c } })

-- A script over points, with a text of so many bytes, so many scans and these moments.
abbrev pub script : List Point → (bytes scans : ℕ) → List MomentValue → ScriptValue
script points bytes scans moments =
    record { points = points; text = text_of bytes; schedule = []; scans = scans; moments = moments }

-- ---- what is read off a play

-- One value for each leg.
abbrev pub of_legs : {T : Type 0} → (Leg → T) → Triple T
of_legs f = record { a = f A; b = f B; c = f C }

-- The same value for each leg.
abbrev pub for_all : {T : Type 0} → T → Triple T
for_all x = record { a = x; b = x; c = x }

-- The notes that each leg has after so many scans in step.
abbrev pub notes_in : ScriptValue → (scans : ℕ) → Leg → List NoteData
notes_in v scans leg = (after_scans programs (play_of v) leg scans).notes

-- The letter of a schedule at which the play of a script gets stuck, counted from 1.
abbrev pub stuck_at : ScriptValue → List Leg → Option ℕ
stuck_at v schedule =
    stuck_from (λ points. programs) 1 schedule (exchange_at_start programs (play_of v))

-- Each leg's state after so many scans.
abbrev pub states : ScriptValue → (scans : ℕ) → Triple State
states v scans = of_legs (λ leg. state_after programs (play_of v) scans leg)

-- What each leg makes of the results, scan by scan.
abbrev pub judgements : ScriptValue → (scans : ℕ) → Triple (List Judged)
judgements v scans = of_legs (λ leg. map (λ (n : NoteData). n.judged) (notes_in v scans leg))

-- What each leg votes.
abbrev pub votes : ScriptValue → (scans : ℕ) → Triple (List (List ℤ))
votes v scans = of_legs (λ leg. map (λ (n : NoteData). n.time ∷ n.values) (notes_in v scans leg))

-- What each leg drives.
abbrev pub drives : ScriptValue → (scans : ℕ) → Triple (List (Option (List ℤ)))
drives v scans = of_legs (λ leg. map (λ (n : NoteData). n.drive) (notes_in v scans leg))

-- What each leg makes of downloads.
abbrev pub verdicts : ScriptValue → (scans : ℕ) → Triple (List (Option Verdict))
verdicts v scans = of_legs (λ leg. map (λ (n : NoteData). n.verdict) (notes_in v scans leg))

-- How each leg stands after so many scans.
abbrev pub endings : ScriptValue → (scans : ℕ) → Triple EndingData
endings v scans = of_legs (λ leg. state_ending (state_after programs (play_of v) scans leg))

-- The changes that each leg's own result tells of, in the scan behind so many.
abbrev pub changes : ScriptValue → (scans : ℕ) → Triple (Option (List (ℕ × ℤ)))
changes v scans = of_legs (λ leg. option_map (λ (s : Sheet). s.pairs) (sheet_of
    (half_at programs v.points (scans_behind (play_of v) scans) (state_after programs (play_of v) scans) leg).own))

-- ---- one scan: two legs read 1, and one 0

-- In the first scan A and B read 1, and C reads 0.
abbrev pub one_scan : ScriptValue
one_scan = script two_points 78 1 (at 1 (start (pos 1) (pos 1) (pos 0) ∷ []) ∷ [])

-- Each leg puts on both sides, and then each takes from both.
abbrev pub in_turn : List Leg
in_turn = A ∷ A ∷ B ∷ B ∷ C ∷ C ∷ A ∷ A ∷ B ∷ B ∷ C ∷ C ∷ []

-- 1 is voted, in 100 ms, and driven; all agree; the second of two windows is next.
pub record OneScan : Type 0 where
  pub judged : judgements one_scan 1 ≡ for_all (j.Agrees ∷ [])
  pub voted : votes one_scan 1 ≡ for_all ((pos 100 ∷ pos 1 ∷ []) ∷ [])
  pub driven : drives one_scan 1 ≡ for_all (Some (pos 1 ∷ []) ∷ [])
  pub ended : endings one_scan 1 ≡ for_all (Runs (pos 0) (pos 1) (pos 1 ∷ pos 1 ∷ []))

-- The two puts of a leg may come one after the other, but no take before a neighbour's put; a box that is full takes no
-- other packet; and a leg whose last scan is over has no step.
pub record Scheduled : Type 0 where
  pub two_puts : stuck_at one_scan (A ∷ A ∷ []) ≡ None
  pub early_take : stuck_at one_scan (A ∷ A ∷ A ∷ []) ≡ Some 3
  pub full_box : stuck_at one_scan (A ∷ A ∷ B ∷ B ∷ C ∷ C ∷ A ∷ A ∷ A ∷ []) ≡ Some 9
  pub whole : stuck_at one_scan (in_turn ++ in_turn) ≡ None
  pub done : stuck_at one_scan (in_turn ++ in_turn ++ A ∷ []) ≡ Some 25

-- ---- a leg is mute, and the others read 1 and 0

-- In the first scan A reads 1, B reads 0, and C is mute.
abbrev pub mute_leg : ScriptValue
mute_leg = script two_points 78 1 (at 1 (start (pos 1) (pos 0) (pos 0) ∷ Mute C ∷ []) ∷ [])

-- Two readings 1 and 0 give 0. The mute leg votes and runs as the others do, and drives no words.
pub record MuteLeg : Type 0 where
  pub judged : judgements mute_leg 1
      ≡ record { a = j.Accuses C ∷ []; b = j.Accuses C ∷ []; c = j.Agrees ∷ [] }
  pub voted : votes mute_leg 1 ≡ for_all ((pos 100 ∷ pos 0 ∷ []) ∷ [])
  pub driven : drives mute_leg 1
      ≡ record { a = Some (pos 0 ∷ []) ∷ []; b = Some (pos 0 ∷ []) ∷ []; c = Some [] ∷ [] }

-- ---- a word of B, which the second window shows, is set in the scan that shows the first

-- K of B is set to 99 in the third scan. K is the number behind 106 others, so the second window shows it.
abbrev pub poked_leg : ScriptValue
poked_leg =
    script two_points 104 7
    (at 1 (start (pos 1) (pos 1) (pos 1) ∷ []) ∷ at 3 (Poke B 2 (pos 99) ∷ []) ∷ [])

-- It is found in the next scan, and two scans later the leg has learned its two windows.
pub record PokedLeg : Type 0 where
  pub judged : judgements poked_leg 7 ≡ record {
    a = j.Agrees ∷ j.Agrees ∷ j.Agrees ∷ j.Accuses B ∷ j.Accuses B ∷ j.Accuses B ∷ j.Agrees ∷ [];
    b = j.Agrees ∷ j.Agrees ∷ j.Agrees ∷ j.Minority ∷ j.Learned 1 ∷ j.Ready ∷ j.Agrees ∷ [];
    c = j.Agrees ∷ j.Agrees ∷ j.Agrees ∷ j.Accuses B ∷ j.Accuses B ∷ j.Accuses B ∷ j.Agrees ∷ [];
  }
  pub driven : (drives poked_leg 7).b ≡
      Some (pos 1 ∷ []) ∷ Some (pos 1 ∷ []) ∷ Some (pos 1 ∷ []) ∷ None ∷ None ∷ None ∷ Some (pos 1 ∷ []) ∷ []
  pub good : states poked_leg 7 ≡ for_all (Running (good_run programs poked_leg 7))
  pub ended : endings poked_leg 7 ≡ for_all (Runs (pos 0) (pos 1) (pos 1 ∷ pos 1 ∷ pos 7 ∷ []))

-- ---- three numbers go round, and one of B is set

-- The first word of B is set to 9 in the third scan.
abbrev pub poked_ring : ScriptValue
poked_ring = script [] 90 3 (at 3 (Poke B 0 (pos 9) ∷ []) ∷ [])

-- A store that differs is found at once: B lists another change.
pub record PokedRing : Type 0 where
  pub changed : changes poked_ring 2 ≡ record {
    a = Some ((0, pos 5) ∷ (2, pos 0) ∷ (3, pos 5) ∷ []);
    b = Some ((0, pos 5) ∷ (1, pos 9) ∷ (2, pos 0) ∷ (3, pos 5) ∷ []);
    c = Some ((0, pos 5) ∷ (2, pos 0) ∷ (3, pos 5) ∷ []);
  }
  pub judged : judgements poked_ring 3 ≡ record {
    a = j.Agrees ∷ j.Agrees ∷ j.Accuses B ∷ [];
    b = j.Agrees ∷ j.Agrees ∷ j.Minority ∷ [];
    c = j.Agrees ∷ j.Agrees ∷ j.Accuses B ∷ [];
  }

-- ---- a leg is replaced, and in the next scan all take a download

-- C begins to learn in the second scan, and the download comes in the third.
abbrev pub replaced_leg : ScriptValue
replaced_leg = script two_points 116 6 (at 2 (Replace C ∷ []) ∷ at 3 (Download (text_of 130) ∷ []) ∷ [])

-- C begins anew at the download, which it doesn't take, and has three windows three scans later.
pub record ReplacedLeg : Type 0 where
  pub judged : judgements replaced_leg 6 ≡ record {
    a = j.Agrees ∷ j.Accuses C ∷ j.Accuses C ∷ j.Accuses C ∷ j.Accuses C ∷ j.Agrees ∷ [];
    b = j.Agrees ∷ j.Accuses C ∷ j.Accuses C ∷ j.Accuses C ∷ j.Accuses C ∷ j.Agrees ∷ [];
    c = j.Agrees ∷ j.Learned 1 ∷ j.Learned 1 ∷ j.Learned 2 ∷ j.Ready ∷ j.Agrees ∷ [];
  }
  pub asked : verdicts replaced_leg 3 ≡ record {
    a = None ∷ None ∷ Some v.Accepted ∷ [];
    b = None ∷ None ∷ Some v.Accepted ∷ [];
    c = None ∷ None ∷ Some v.Learning ∷ [];
  }
  pub good : states replaced_leg 6 ≡ for_all (Running (good_run programs replaced_leg 6))
  pub ended : endings replaced_leg 6 ≡ for_all (Runs (pos 1) (pos 1) (pos 0 ∷ pos 0 ∷ pos 13 ∷ pos 3 ∷ []))

-- ---- a leg shows its left neighbour another reading

-- In the third scan A shows C that it reads 0.
abbrev pub two_faced : ScriptValue
two_faced =
    script two_points 78 3
    (at 1 (start (pos 1) (pos 1) (pos 0) ∷ []) ∷ at 3 (Read A (Some Left) (pos 1 ∷ pos 100 ∷ pos 0 ∷ []) ∷ []) ∷ [])

-- C votes 0 alone, is in the minority, and learns.
pub record TwoFaced : Type 0 where
  pub judged : judgements two_faced 3 ≡ record {
    a = j.Agrees ∷ j.Agrees ∷ j.Accuses C ∷ [];
    b = j.Agrees ∷ j.Agrees ∷ j.Accuses C ∷ [];
    c = j.Agrees ∷ j.Agrees ∷ j.Minority ∷ [];
  }
  pub voted : (votes two_faced 3).a ≡ replicate 3 (pos 100 ∷ pos 1 ∷ [])
  pub split : (votes two_faced 3).c ≡ (pos 100 ∷ pos 1 ∷ []) ∷ (pos 100 ∷ pos 1 ∷ []) ∷ (pos 100 ∷ pos 0 ∷ []) ∷ []
  pub ended : (endings two_faced 3).c ≡ Learns 0

-- ---- a leg shows its left neighbour another result

-- In the third scan A shows C a result of two words.
abbrev pub false_result : ScriptValue
false_result =
    script two_points 78 3
    (at 1 (start (pos 1) (pos 1) (pos 0) ∷ []) ∷ at 3 (Result A (Some Left) (pos 2 ∷ pos 0 ∷ []) ∷ []) ∷ [])

-- That one accuses it. It judges its own genuine result, and agrees.
pub record FalseResult : Type 0 where
  pub judged : judgements false_result 3 ≡ record {
    a = j.Agrees ∷ j.Agrees ∷ j.Agrees ∷ [];
    b = j.Agrees ∷ j.Agrees ∷ j.Agrees ∷ [];
    c = j.Agrees ∷ j.Agrees ∷ j.Accuses A ∷ [];
  }

-- ---- a program of one window and no words, and a leg that is replaced in the first scan

-- C begins to learn in the first scan. The text has 22 bytes, and there are no points.
abbrev pub one_window : ScriptValue
one_window = script [] 22 2 (at 1 (Replace C ∷ []) ∷ [])

-- It learns in that very scan. While it learns it drives nothing, which isn't to drive no words.
pub record OneWindow : Type 0 where
  pub judged : judgements one_window 2 ≡ record {
    a = j.Accuses C ∷ j.Agrees ∷ [];
    b = j.Accuses C ∷ j.Agrees ∷ [];
    c = j.Ready ∷ j.Agrees ∷ [];
  }
  pub voted : votes one_window 2 ≡ for_all ((pos 100 ∷ []) ∷ (pos 100 ∷ []) ∷ [])
  pub driven : drives one_window 2 ≡ record {
    a = Some [] ∷ Some [] ∷ [];
    b = Some [] ∷ Some [] ∷ [];
    c = None ∷ Some [] ∷ [];
  }
  pub ended : endings one_window 2 ≡ for_all (Runs (pos 0) (pos 0) [])

-- ---- a download that is refused, and then one that is accepted

-- The text of the second scan's download is no program.
abbrev pub changed_program : ScriptValue
changed_program =
    script two_points 116 3 (at 2 (Download (text_of 0) ∷ []) ∷ at 3 (Download (text_of 130) ∷ []) ∷ [])

-- The refused one counts no epoch and leaves the turn, which goes on; the accepted one begins with the first window.
pub record ChangedProgram : Type 0 where
  pub asked : verdicts changed_program 3 ≡ for_all (None ∷ Some (v.Refused (Syntax 0)) ∷ Some v.Accepted ∷ [])
  pub refused : endings changed_program 2 ≡ for_all (Runs (pos 0) (pos 0) (pos 0 ∷ pos 0 ∷ pos 9 ∷ []))
  pub accepted : endings changed_program 3 ≡ for_all (Runs (pos 1) (pos 1) (pos 0 ∷ pos 0 ∷ pos 10 ∷ pos 3 ∷ []))

-- ---- a download in the second scan, and a leg that is given its own text again in the third

-- The download comes in the second scan, and B swaps in the third.
abbrev pub swapped_leg : ScriptValue
swapped_leg =
    script two_points 116 4 (at 2 (Download (text_of 130) ∷ []) ∷ at 3 (Swap B (text_of 130) ∷ []) ∷ [])

-- The first window is shown again after the download. The leg has the first words, and keeps its epoch and turn; so it
-- is found at once.
pub record SwappedLeg : Type 0 where
  pub changed : endings swapped_leg 2 ≡ for_all (Runs (pos 1) (pos 1) (pos 0 ∷ pos 0 ∷ pos 9 ∷ pos 3 ∷ []))
  pub judged : judgements swapped_leg 4 ≡ record {
    a = j.Agrees ∷ j.Agrees ∷ j.Accuses B ∷ j.Accuses B ∷ [];
    b = j.Agrees ∷ j.Agrees ∷ j.Minority ∷ j.Learned 1 ∷ [];
    c = j.Agrees ∷ j.Agrees ∷ j.Accuses B ∷ j.Accuses B ∷ [];
  }
  pub told : changes swapped_leg 2 ≡ record {
    a = Some ((2, pos 10) ∷ []);
    b = Some ((2, pos 8) ∷ []);
    c = Some ((2, pos 10) ∷ []);
  }

-- ---- two legs, poked one after the other, at a span of nine scans

-- K of A is set in the second scan, and K of B in the eleventh.
abbrev pub poked_twice : ScriptValue
poked_twice = script two_points 104 12 (at 2 (Poke A 2 (pos 99) ∷ []) ∷ at 11 (Poke B 2 (pos 99) ∷ []) ∷ [])

-- The same, but for the second one's scan.
abbrev pub poked_soon : ScriptValue
poked_soon = script two_points 104 12 (at 2 (Poke A 2 (pos 99) ∷ []) ∷ at 5 (Poke B 2 (pos 99) ∷ []) ∷ [])

-- The first one is sound again in the scan in which the second one is poked; in the other script it is not.
pub record PokedTwice : Type 0 where
  pub first : recovery_countdown programs poked_twice A 2 ≡ 9
  pub last : recovery_countdown programs poked_twice A 10 ≡ 1
  pub over : recovery_countdown programs poked_twice A 11 ≡ 0
  pub second : recovery_countdown programs poked_twice B 11 ≡ 9
  pub both : (recovery_countdown programs poked_soon A 5 ≡ 6) × (recovery_countdown programs poked_soon B 5 ≡ 9)
  pub judged : judgements poked_twice 12 ≡ record {
    a = j.Agrees ∷ j.Minority ∷ j.Learned 1 ∷ j.Ready ∷ replicate 7 j.Agrees ++ j.Accuses B ∷ [];
    b = j.Agrees ∷ j.Accuses A ∷ j.Accuses A ∷ j.Accuses A ∷ replicate 7 j.Agrees ++ j.Minority ∷ [];
    c = j.Agrees ∷ j.Accuses A ∷ j.Accuses A ∷ j.Accuses A ∷ replicate 7 j.Agrees ++ j.Accuses B ∷ [];
  }

-- ---- ten windows

-- Three analogue inputs and eight discrete ones.
abbrev pub many_points : List Point
many_points =
    replicate 3 (record { name = 80 ∷ []; kind = Ai; low = pos 0; high = pos 4095; tolerance = pos 16 })
    ++ replicate 8 (record { name = 68 ∷ []; kind = Di; low = pos 0; high = pos 1; tolerance = pos 0 })

-- A text of 563 bytes and 23 words has ten windows. C begins to learn in the fifth scan.
abbrev pub ten_windows : ScriptValue
ten_windows =
    script many_points 563 15 (at 1 (start (pos 2000) (pos 2000) (pos 2000) ∷ []) ∷ at 5 (Replace C ∷ []) ∷ [])

-- Ten scans later the replaced leg agrees.
pub record TenWindows : Type 0 where
  pub judged : (judgements ten_windows 15).c ≡ replicate 4 j.Agrees
      ++ j.Learned 1 ∷ j.Learned 2 ∷ j.Learned 3 ∷ j.Learned 4 ∷ j.Learned 5 ∷ j.Learned 6 ∷ j.Learned 7 ∷ j.Learned 8
      ∷ j.Learned 9 ∷ j.Ready ∷ j.Agrees ∷ []
