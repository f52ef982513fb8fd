-- The statuses with which a command ends: their numbers and lines. Own rule.
use Rattle.std.specs.Prelude.{ℕ, pos, List, [], ◌++◌, codes}
use Rattle.std.specs.Fmt.{signed_decimal}
use Rattle.chassis.specs.declared.points.ChassisFault.{ChassisFault}
use Rattle.chassis.specs.declared.points.ChassisFault.TheVariants as point
use Rattle.script_text.specs.declared.fault.ScriptCause.{ScriptCause}
use Rattle.script_text.specs.declared.fault.ScriptCause.TheVariants as script
use Rattle.report_lines.specs.Refusals.{refusal_text}
use Rattle.tricon.specs.declared.status.Status.{Status}
use Rattle.tricon.specs.declared.status.Status.TheVariants.{Done, Usage, Refused, ReadFault, WriteFault, NoMemory, DoneNotCalm, ScriptTooLong, Stuck}
use Rattle.tricon.specs.declared.status.RefusedCause.{RefusedCause}
use Rattle.tricon.specs.declared.status.RefusedCause.TheVariants.{Script, Program, Matrix, MatrixTooLarge}
use Rattle.cause_effect.specs.declared.fault.MatrixCause.{MatrixCause}
use Rattle.cause_effect.specs.declared.fault.MatrixCause.TheVariants as matrix

-- The number with which the program ends.
abbrev pub status_number : Status → ℕ
status_number Done = 0
status_number Usage = 1
status_number (Refused line cause) = 2
status_number ReadFault = 3
status_number WriteFault = 4
status_number NoMemory = 5
status_number (DoneNotCalm scan) = 6
status_number ScriptTooLong = 7
status_number (Stuck index) = 8

-- Why the chassis can't have a point. No script is refused for want of memory.
abbrev pub chassis_fault_text : ChassisFault → List ℕ
chassis_fault_text point.BadRange = codes "CHASSIS RANGE"
chassis_fault_text (point.Twice name) = codes "CHASSIS TWICE " ++ name
chassis_fault_text point.Full = codes "CHASSIS FULL"
chassis_fault_text point.NoMemory = []

-- Which rule of scripts a line breaks.
abbrev pub script_cause_text : ScriptCause → List ℕ
script_cause_text script.Word = codes "WORD"
script_cause_text script.Form = codes "FORM"
script_cause_text (script.Chassis fault) = chassis_fault_text fault
script_cause_text script.Order = codes "ORDER"
script_cause_text script.Point = codes "POINT"
script_cause_text script.Range = codes "RANGE"
script_cause_text script.Second = codes "SECOND"
script_cause_text script.End = codes "END"

-- Which rule of matrices a line breaks.
abbrev pub matrix_cause_text : MatrixCause → List ℕ
matrix_cause_text matrix.Word = codes "MATRIX WORD"
matrix_cause_text matrix.Form = codes "MATRIX FORM"
matrix_cause_text matrix.Reserved = codes "MATRIX RESERVED"
matrix_cause_text matrix.Twice = codes "MATRIX TWICE"
matrix_cause_text matrix.Unknown = codes "MATRIX UNKNOWN"
matrix_cause_text matrix.Full = codes "MATRIX FULL"
matrix_cause_text matrix.End = codes "MATRIX END"

-- Why a script or a matrix is refused.
abbrev pub cause_text : RefusedCause → List ℕ
cause_text (Script cause) = script_cause_text cause
cause_text (Program refusal) = codes "PROGRAM " ++ refusal_text refusal
cause_text (Matrix cause) = matrix_cause_text cause
cause_text (MatrixTooLarge bytes) = codes "MATRIX LARGE " ++ signed_decimal (pos bytes)

-- The line of a refused script or matrix.
abbrev pub refused_text : ℕ → RefusedCause → List ℕ
refused_text line cause =
    codes "refused: line " ++ (signed_decimal (pos line) ++ (codes ": " ++ (cause_text cause ++ codes "\n")))

-- A line of words and a number.
abbrev pub counted_text : List ℕ → ℕ → List ℕ
counted_text words number = words ++ (signed_decimal (pos number) ++ codes "\n")

-- The line of the words that the program takes.
abbrev pub usage_text : List ℕ
usage_text =
    codes "usage: tricon play [summary | events | modbus] | solo [summary] | step | check | matrix | make NUMBER SCANS\n"

-- The line that tells a status; none where all went well.
abbrev pub status_text : Status → List ℕ
status_text Done = []
status_text Usage = usage_text
status_text (Refused line cause) = refused_text line cause
status_text ReadFault = codes "read fault\n"
status_text WriteFault = codes "write fault\n"
status_text NoMemory = codes "no memory\n"
status_text (DoneNotCalm scan) = counted_text (codes "not calm at scan ") scan
status_text ScriptTooLong = codes "script too long\n"
status_text (Stuck index) = counted_text (codes "stuck at step ") index
