-- Before the first scan that isn't calm, the replies to Modbus requests are those over one controller without faults.
-- Own rule.
use Rattle.std.specs.Prelude.{◌≡◌, ℕ, ℤ, pos, ◌≤◌, List, [], ◌∷◌, ◌++◌, Option, None, codes}
use Rattle.std.specs.List.{flat_map, range_with_len}
use Rattle.engine_face.specs.Meaning.{Meaning}
use Rattle.script_text.specs.ScriptValue.{ScriptValue}
use Rattle.single_controller.specs.Controller.{scanned_at, voted_at}
use Rattle.report_lines.specs.Calm.{calm_line}
use Rattle.report_lines.specs.Lines.{line}
use Rattle.modbus_face.specs.Replies.{reply_of}
use Rattle.modbus_face.specs.ReplyLines.{reply_line}
use Rattle.play_texts.specs.Replies.{asks_of}
use Rattle.majority_laws.specs.Majority.{IsBefore}
use Rattle.script_commands.specs.declared.script_command.ScriptCommand.TheVariants.{Play}
use Rattle.script_commands.specs.declared.script_command.PlayCommand.TheVariants.{Modbus}
use Rattle.tricon.specs.Readings.{ScriptOutput, meaning_over}

-- The lines that answer the requests of a scan, in their order, over these values of the inputs and the outputs.
abbrev pub answered : ScriptValue → (scan : ℕ) → (inputs outputs : List ℤ) → List ℕ
answered v scan inputs outputs =
    flat_map (λ request. reply_line scan (reply_of request v.points inputs outputs)) (asks_of v scan)

-- The same over the voted inputs and the outputs of the one controller.
abbrev pub answered_at : Meaning → ScriptValue → (scan : ℕ) → List ℕ
answered_at m v scan = answered v scan (voted_at v scan).values (scanned_at m v scan).outputs

-- The text of the replies, from the lines of each scan: its title, these lines, whether all scans were calm.
abbrev pub replies_text : (scans : ℕ) → (lines : (scan : ℕ) → List ℕ) → (uncalm : Option ℕ) → List ℕ
replies_text scans lines uncalm =
    line (codes "TRICON MODBUS") (pos 1 ∷ [])
    ++ (flat_map lines (range_with_len 1 scans) ++ (calm_line uncalm ++ line (codes "END") []))

-- The requests of each of the script's scans are answered over some values of the inputs and the outputs, and this is
-- the text; and in each scan before the first that isn't calm these values are the one controller's.
pub record AnswersController (m : Meaning) (v : ScriptValue) (uncalm : Option ℕ) (text : List ℕ) : Type 0 where
  pub inputs : (scan : ℕ) → List ℤ
  pub outputs : (scan : ℕ) → List ℤ
  pub is : text ≡ replies_text v.scans (λ scan. answered v scan (inputs scan) (outputs scan)) uncalm
  pub voted : (scan : ℕ) → 1 ≤ scan → scan ≤ v.scans → IsBefore scan uncalm → inputs scan ≡ (voted_at v scan).values
  pub driven : (scan : ℕ) → 1 ≤ scan → scan ≤ v.scans → IsBefore scan uncalm
      → outputs scan ≡ (scanned_at m v scan).outputs

-- So is each text of replies that `play modbus` writes.
abbrev pub RepliesCarry : Type 0
RepliesCarry =
    (bytes : List ℕ) (uncalm : Option ℕ) (output : List ℕ)
    → (is : ScriptOutput (Play Modbus) bytes uncalm output)
    → AnswersController (meaning_over is.script) is.script.value uncalm output

-- Where all scans are calm, `play modbus` writes the replies over the one controller.
abbrev pub CalmRepliesCarry : Type 0
CalmRepliesCarry =
    (bytes : List ℕ) (output : List ℕ) → (is : ScriptOutput (Play Modbus) bytes None output)
    → output ≡ replies_text is.script.value.scans (answered_at (meaning_over is.script) is.script.value) None
