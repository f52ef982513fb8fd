-- What the commands that read a script write of it, by the meaning of an engine over the script's points. Own rule.
use Rattle.std.specs.Prelude.{◌≡◌, ℕ, List, Option, Some, None}
use Rattle.tri_base.specs.declared.point.Point.{Point}
use Rattle.engine_face.specs.Meaning.{Meaning}
use Rattle.script_text.specs.ScriptValue.{ScriptValue}
use Rattle.plant_script.specs.Calm.{IsFirstUncalm}
use Rattle.play_report.specs.LegsReport.{legs_report, legs_summary}
use Rattle.play_texts.specs.Events.{play_events}
use Rattle.play_texts.specs.Replies.{play_replies}
use Rattle.controller_report.specs.SoloReport.{solo_report}
use Rattle.controller_report.specs.SoloSummary.{solo_summary}
use Rattle.check_report.specs.CheckText.{check_text}
use Rattle.step_play.specs.Stepping.{IsReport, stuck_letter}
use Rattle.script_commands.specs.declared.script_command.ScriptCommand.{ScriptCommand}
use Rattle.script_commands.specs.declared.script_command.ScriptCommand.TheVariants.{Single, Step, Play}
use Rattle.script_commands.specs.declared.script_command.PlayCommand.{PlayCommand}
use Rattle.script_commands.specs.declared.script_command.PlayCommand.TheVariants.{Report, Summary, Events, Modbus}
use Rattle.script_commands.specs.declared.script_command.SingleCommand.{SingleCommand}
use Rattle.script_commands.specs.declared.script_command.SingleCommand.TheVariants.{Solo, SoloSummary, Check}

-- The text that a command of the one controller writes.
abbrev pub single_output : SingleCommand → Meaning → ScriptValue → List ℕ
single_output Solo m v = solo_report m v
single_output SoloSummary m v = solo_summary m v
single_output Check m v = check_text m v

-- The text that a command writes of three legs, with the first scan that isn't calm.
abbrev pub play_output : PlayCommand → Meaning → ScriptValue → (uncalm : Option ℕ) → List ℕ
play_output Report m v uncalm = legs_report m v uncalm
play_output Summary m v uncalm = legs_summary m v uncalm
play_output Events m v uncalm = play_events m v uncalm
play_output Modbus m v uncalm = play_replies m v uncalm

-- This is the text that a command writes, and the first scan that isn't calm, where three legs play.
abbrev pub IsOutputOf : ScriptCommand → (List Point → Meaning) → ScriptValue → (uncalm : Option ℕ) → (text : List ℕ)
    → Type 0
IsOutputOf (Single command) m v uncalm text = (uncalm ≡ None) × (text ≡ single_output command (m v.points) v)
IsOutputOf Step m v uncalm text = IsReport m v uncalm text
IsOutputOf (Play command) m v uncalm text =
    IsFirstUncalm (m v.points) v uncalm × (text ≡ play_output command (m v.points) v uncalm)

-- At this letter the schedule is stuck. The one controller has none, and threads follow none.
abbrev pub IsStuckAt : ScriptCommand → (List Point → Meaning) → ScriptValue → (letter : ℕ) → Type 0
IsStuckAt (Single command) m v letter = ⊥
IsStuckAt Step m v letter = stuck_letter m v ≡ Some letter
IsStuckAt (Play command) m v letter = ⊥
