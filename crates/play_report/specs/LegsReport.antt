-- The report of a play of a script, and its summary: what three legs in step note, mark and end with. Own rule.
use Rattle.std.specs.Prelude.{ℕ, List, length, Option}
use Rattle.tri_base.specs.declared.leg.Leg.TheVariants.{A, B, C}
use Rattle.tri_base.specs.declared.leg.Triple.{Triple}
use Rattle.chassis.specs.Points.{inputs_of}
use Rattle.engine_face.specs.Meaning.{Meaning}
use Rattle.fault_history.specs.Notes.{EndingData}
use Rattle.script_text.specs.ScriptValue.{ScriptValue}
use Rattle.diag_report.specs.Report.{ScanTold, report_of, report_summary}
use Rattle.leg_laws.specs.Endings.{state_ending}
use Rattle.leg_laws.specs.Plays.{play_of}
use Rattle.leg_laws.specs.Rounds.{after_scans, state_after}
use Rattle.majority_laws.specs.Majority.{note_at}
use Rattle.play_report.specs.Marks.{marks_of}
use Rattle.play_report.specs.Told.{told_first}

-- What is told of each scan.
abbrev pub told_of : Meaning → ScriptValue → List ScanTold
told_of m v = told_first v.points (λ leg scan. note_at m v scan leg) v.scans

-- Each leg's disagreements after the last scan.
abbrev pub tables_of : Meaning → ScriptValue → Triple (List (Triple ℕ))
tables_of m v = record {
  a = (after_scans m (play_of v) A v.scans).marks;
  b = (after_scans m (play_of v) B v.scans).marks;
  c = (after_scans m (play_of v) C v.scans).marks;
}

-- How each leg stands after the last scan.
abbrev pub endings_of : Meaning → ScriptValue → Triple EndingData
endings_of m v = record {
  a = state_ending (state_after m (play_of v) v.scans A);
  b = state_ending (state_after m (play_of v) v.scans B);
  c = state_ending (state_after m (play_of v) v.scans C);
}

-- The report, with the first scan that isn't calm.
abbrev pub legs_report : Meaning → ScriptValue → (uncalm : Option ℕ) → List ℕ
legs_report m v uncalm =
    report_of v.points (told_of m v) (marks_of (length (inputs_of v.points)) (tables_of m v)) (endings_of m v) uncalm

-- The summary.
abbrev pub legs_summary : Meaning → ScriptValue → (uncalm : Option ℕ) → List ℕ
legs_summary m v uncalm = report_summary (told_of m v) uncalm
