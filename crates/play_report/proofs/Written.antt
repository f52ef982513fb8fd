-- The report, piece by piece.
use Rattle.std.proofs.Common.{◌≡◌, ◌∙◌, ◌≤◌, ◌++◌, List, ℕ, length, Option, ap, sym, subst, append_assoc}
use Rattle.tri_base.specs.declared.leg.Leg.{Leg}
use Rattle.tri_base.specs.declared.leg.Triple.{Triple}
use Rattle.tri_base.specs.declared.point.Point.{Point}
use Rattle.tri_base.specs.Legs.{leg_part}
use Rattle.chassis.specs.Points.{inputs_of}
use Rattle.engine_face.specs.Meaning.{Meaning}
use Rattle.fault_history.specs.declared.history.Entry.{Entry}
use Rattle.fault_history.specs.Notes.{NoteData}
use Rattle.script_text.specs.ScriptValue.{ScriptValue}
use Rattle.diag_report.specs.EndPart.{end_part_of}
use Rattle.diag_report.specs.Report.{ScanTold, history_of, report_head, scan_parts}
use Rattle.leg_laws.specs.Configs.{LegValue}
use Rattle.majority_laws.specs.Majority.{note_at}
use Rattle.play_report.specs.LegsReport.{endings_of, legs_report, tables_of, told_of}
use Rattle.play_report.specs.Marks.{marks_of}
use Rattle.play_report.specs.Tables.{tables_in}
use Rattle.play_report.specs.Told.{note_of_scan, told_first}
use Rattle.play_report.proofs.Growing.{told_alike}

-- the notes of the legs tell what is told of the play
pub told_is : (m : Meaning) (v : ScriptValue) (points : List Point) (scans : ℕ) (legs : Triple LegValue)
    → points ≡ v.points → scans ≡ v.scans
    → ((leg : Leg) (scan : ℕ) → 1 ≤ scan → scan ≤ v.scans
    → note_of_scan (leg_part legs leg).notes scan ≡ note_at m v scan leg)
    → told_first points (λ leg. note_of_scan (leg_part legs leg).notes) scans ≡ told_of m v
told_is m v points scans legs e n notes =
    let f : Leg → ℕ → NoteData = λ leg. note_of_scan (leg_part legs leg).notes in
    (λ i. told_first (e i) f (n i))
    ∙ told_alike v.points f (λ leg scan. note_at m v scan leg) v.scans notes

-- the report behind what stood there
pub whole : (m : Meaning) (v : ScriptValue) (uncalm : Option ℕ) (start head scans : List ℕ) (points : List Point)
    (legs : Triple LegValue) (history : List Entry) (told : List ScanTold)
    → points ≡ v.points → head ≡ start ++ report_head → scans ≡ head ++ scan_parts told → history ≡ history_of told
    → told ≡ told_of m v → tables_in legs ≡ tables_of m v
    → scans ++ end_part_of points history (marks_of (length (inputs_of points)) (tables_in legs))
    (endings_of m v).a (endings_of m v).b (endings_of m v).c uncalm
    ≡ start ++ legs_report m v uncalm
whole m v uncalm start head scans points legs history told e h s y t b =
    let ends = endings_of m v in
    let parts = scan_parts (told_of m v) in
    let end = end_part_of v.points (history_of (told_of m v)) (marks_of (length (inputs_of v.points)) (tables_of m v)) ends.a ends.b ends.c uncalm in
    let text : scans ≡ (start ++ report_head) ++ parts = s ∙ (λ i. h i ++ scan_parts (t i)) in
    let past : history ≡ history_of (told_of m v) = y ∙ ap history_of t in
    (λ i. text i ++ end_part_of (e i) (past i) (marks_of (length (inputs_of (e i))) (b i)) ends.a ends.b ends.c uncalm)
    ∙ (append_assoc (start ++ report_head) parts end ∙ append_assoc start report_head (parts ++ end))
