-- What the report of the three legs tells behind the last scan. Own rule.
use Rattle.std.specs.Prelude.{ℕ, pos, List, [], ◌∷◌, ◌++◌, length, Option, Some, None, slice_get, codes}
use Rattle.std.specs.List.{flat_map}
use Rattle.std.specs.Fmt.{signed_decimal}
use Rattle.tri_base.specs.declared.leg.Leg.{Leg}
use Rattle.tri_base.specs.declared.leg.Leg.TheVariants.{A, B, C}
use Rattle.tri_base.specs.declared.point.Point.{Point}
use Rattle.chassis.specs.Points.{inputs_of}
use Rattle.fault_history.specs.declared.history.Entry.{Entry}
use Rattle.fault_history.specs.Notes.{EndingData, Learns, Runs}
use Rattle.report_lines.specs.Calm.{calm_line}
use Rattle.report_lines.specs.Lines.{line, two_words}
use Rattle.report_lines.specs.Refusals.{named}
use Rattle.diag_report.specs.Judgements.{judgement_text, leg_letter}

-- An entry of the history: the scan, the leg, and what it was judged.
abbrev pub entry_line : Entry → List ℕ
entry_line entry =
    two_words (named (signed_decimal (pos entry.scan)) (leg_letter entry.leg)) (judgement_text entry.judged)

-- The history: how many entries there are, and each, the oldest first.
abbrev pub history_lines : List Entry → List ℕ
history_lines entries = line (codes "HISTORY") (pos (length entries) ∷ []) ++ flat_map entry_line entries

-- The name of a point that is there.
abbrev pub point_name : Option Point → List ℕ
point_name (Some point) = point.name
point_name None = []

-- A mark: the name of the input at a place among the inputs, and the leg that kept disagreeing there.
abbrev pub mark_line : List Point → ℕ × Leg → List ℕ
mark_line points mark =
    two_words (named (codes "MARK") (point_name (slice_get (inputs_of points) mark.0))) (leg_letter mark.1)

-- The marks: how many there are, and each in its order.
abbrev pub mark_lines : List Point → List (ℕ × Leg) → List ℕ
mark_lines points marks = line (codes "MARKS") (pos (length marks) ∷ []) ++ flat_map (mark_line points) marks

-- How a leg stands after the last scan: it runs, with its epoch, turn and words; or it learns, and has so many windows.
abbrev pub final_line : Leg → EndingData → List ℕ
final_line leg (Runs epoch turn words) =
    line (named (named (codes "FINAL") (leg_letter leg)) (codes "RUN")) (epoch ∷ turn ∷ words)
final_line leg (Learns windows) =
    line (named (named (codes "FINAL") (leg_letter leg)) (codes "LEARN")) (pos windows ∷ [])

-- The same of the three legs.
abbrev pub final_lines : (a b c : EndingData) → List ℕ
final_lines a b c = final_line A a ++ (final_line B b ++ final_line C c)

-- The part of the report behind the last scan: the history, the marks, how the legs stand, whether all was calm.
abbrev pub end_part_of :
    List Point → List Entry → List (ℕ × Leg) → (a b c : EndingData) → Option ℕ → List ℕ
end_part_of points history marks a b c uncalm =
    history_lines history
    ++ (mark_lines points marks ++ (final_lines a b c ++ (calm_line uncalm ++ line (codes "END") [])))
