-- Before the first scan that isn't calm, the events of three legs are those of one controller without faults. Own rule.
use Rattle.std.specs.Prelude.{◌≡◌, ℕ, ◌≤◌, List, map, Option, None}
use Rattle.std.specs.List.{range_with_len}
use Rattle.engine_face.specs.Meaning.{Meaning}
use Rattle.script_text.specs.ScriptValue.{ScriptValue}
use Rattle.single_controller.specs.Controller.{scanned_at, voted_at}
use Rattle.soe_log.specs.Recording.{ScanShown}
use Rattle.soe_log.specs.EventText.{events_text}
use Rattle.majority_laws.specs.Majority.{IsBefore}
use Rattle.script_commands.specs.declared.script_command.ScriptCommand.TheVariants.{Play}
use Rattle.script_commands.specs.declared.script_command.PlayCommand.TheVariants.{Events}
use Rattle.tricon.specs.Readings.{ScriptOutput, meaning_over}

-- What a recorder is shown of a scan of the one controller: the voted scan time and inputs, and its outputs.
abbrev pub shown_at : Meaning → ScriptValue → (scan : ℕ) → ScanShown
shown_at m v scan = record {
  time = (voted_at v scan).time;
  inputs = (voted_at v scan).values;
  outputs = (scanned_at m v scan).outputs;
}

-- A recorder was shown each of the script's scans, this is the text of its events, and what it was shown of each scan
-- before the first that isn't calm is the one controller's.
pub record RecordsController (m : Meaning) (v : ScriptValue) (uncalm : Option ℕ) (text : List ℕ) : Type 0 where
  pub shown : (scan : ℕ) → ScanShown
  pub is : text ≡ events_text v.points (map shown (range_with_len 1 v.scans)) uncalm
  pub scans : (scan : ℕ) → 1 ≤ scan → scan ≤ v.scans → IsBefore scan uncalm → shown scan ≡ shown_at m v scan

-- So is each text of events that `play events` writes.
abbrev pub EventsCarry : Type 0
EventsCarry =
    (bytes : List ℕ) (uncalm : Option ℕ) (output : List ℕ)
    → (is : ScriptOutput (Play Events) bytes uncalm output)
    → RecordsController (meaning_over is.script) is.script.value uncalm output

-- The text of the one controller's events.
abbrev pub controller_events : Meaning → ScriptValue → List ℕ
controller_events m v = events_text v.points (map (shown_at m v) (range_with_len 1 v.scans)) None

-- Where all scans are calm, that is what `play events` writes.
abbrev pub CalmEventsCarry : Type 0
CalmEventsCarry =
    (bytes : List ℕ) (output : List ℕ) → (is : ScriptOutput (Play Events) bytes None output)
    → output ≡ controller_events (meaning_over is.script) is.script.value
