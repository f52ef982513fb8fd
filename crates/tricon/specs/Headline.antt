-- The headline: before the first scan that isn't calm, three legs write what one controller without faults does. Own
-- rule.
use Rattle.std.specs.Prelude.{◌≡◌, ◌⊎◌, ℕ, ◌≤◌, List, map, Option, None}
use Rattle.std.specs.List.{range_with_len}
use Rattle.tri_base.specs.declared.leg.Leg.{Leg}
use Rattle.tri_base.specs.declared.leg.Triple.{Triple}
use Rattle.tri_base.specs.Legs.{leg_part}
use Rattle.engine_face.specs.Meaning.{Meaning}
use Rattle.fault_history.specs.AlarmTests.{alarms_of}
use Rattle.fault_history.specs.Notes.{EndingData, NoteData}
use Rattle.script_text.specs.ScriptValue.{ScriptValue}
use Rattle.plant_script.specs.Countdown.{IsSound}
use Rattle.single_controller.specs.Controller.{scanned_at}
use Rattle.controller_report.specs.SoloSummary.{output_sum}
use Rattle.diag_report.specs.Report.{ScanTold, report_of}
use Rattle.diag_report.specs.Summary.{summary_of}
use Rattle.majority_laws.specs.Carried.{Carry}
use Rattle.majority_laws.specs.Majority.{IsBefore}
use Rattle.majority_laws.specs.Sound.{good_ending}
use Rattle.script_commands.specs.declared.script_command.ScriptCommand.{ScriptCommand}
use Rattle.script_commands.specs.declared.script_command.ScriptCommand.TheVariants.{Step, Play}
use Rattle.script_commands.specs.declared.script_command.PlayCommand.TheVariants.{Report, Summary}
use Rattle.tricon.specs.Readings.{ScriptOutput, meaning_over}

-- ---- reports

-- A leg's note of a scan, of all that is told of it.
abbrev pub note_in : ScanTold → Leg → NoteData
note_in told leg = leg_part (record { a = told.a; b = told.b; c = told.c }) leg

-- What is told of a scan is what the one controller does in it: its outputs and its flag ARITH stand there, and the
-- legs' notes carry it. So the inputs, the scan time and the sound legs' verdicts that stand there are its own too. No
-- leg's memory, no packet and no schedule occurs here.
pub record TellsScan (m : Meaning) (v : ScriptValue) (scan : ℕ) (told : ScanTold) : Type 0 where
  pub outputs : told.out ≡ (scanned_at m v scan).outputs
  pub arith : (alarms_of told.a told.b told.c told.out).arith ≡ (scanned_at m v scan).flag
  pub carries : Carry m v scan (note_in told)

-- A whole report tells the one controller. It is the report of what is told of each of the script's scans, of some
-- marks and of how the legs end. What is told of each scan before the first that isn't calm is what the one controller
-- does in it. Where all scans are calm, each leg that is sound in the last one ends as the one controller does: it
-- runs, with that one's epoch, its next window and its words.
pub record ReportTells (m : Meaning) (v : ScriptValue) (uncalm : Option ℕ) (report : List ℕ) : Type 0 where
  pub told : (scan : ℕ) → ScanTold
  pub marks : List (ℕ × Leg)
  pub ends : Triple EndingData
  pub is : report ≡ report_of v.points (map told (range_with_len 1 v.scans)) marks ends uncalm
  pub scans : (scan : ℕ) → 1 ≤ scan → scan ≤ v.scans → IsBefore scan uncalm → TellsScan m v scan (told scan)
  pub sound : uncalm ≡ None → (leg : Leg) → IsSound m v leg v.scans → leg_part ends leg ≡ good_ending m v v.scans

-- The commands that write the report of three legs: `step` and `play`.
abbrev pub WritesReport : ScriptCommand → Type 0
WritesReport command = (command ≡ Step) ⊎ (command ≡ Play Report)

-- Whatever bytes such a command has an output of, that output tells the one controller.
abbrev pub ReportsCarry : Type 0
ReportsCarry =
    (command : ScriptCommand) (bytes : List ℕ) (uncalm : Option ℕ) (output : List ℕ) → WritesReport command
    → (is : ScriptOutput command bytes uncalm output)
    → ReportTells (meaning_over is.script) is.script.value uncalm output

-- ---- summaries

-- A summary has the sum of the one controller's outputs in all scans, and tells that all scans were calm.
pub record SumsController (m : Meaning) (v : ScriptValue) (summary : List ℕ) : Type 0 where
  pub alarmed : ℕ
  pub is : summary ≡ summary_of v.scans (output_sum m v) alarmed None

-- Each summary of a play all of whose scans are calm is such.
abbrev pub SummariesCarry : Type 0
SummariesCarry =
    (bytes : List ℕ) (output : List ℕ) → (is : ScriptOutput (Play Summary) bytes None output)
    → SumsController (meaning_over is.script) is.script.value output
