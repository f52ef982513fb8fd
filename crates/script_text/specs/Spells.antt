-- Which texts are scripts, and where one isn't: the first line that no script has there (own rules).
use Rattle.std.specs.Prelude.{◌≡◌, ℕ, ◌+◌, ◌<◌, List, [], ◌++◌, length, map, fold, take, get_or, ◌⊎◌, Result, Ok, Err}
use Rattle.script_text.specs.declared.fault.ScriptCause.{ScriptCause}
use Rattle.script_text.specs.declared.fault.ScriptCause.TheVariants.{End}
use Rattle.script_text.specs.declared.fault.ScriptFault.{ScriptFault}
use Rattle.script_text.specs.declared.fault.ScriptFault.TheVariants.{At, NoMemory}
use Rattle.script_lines.specs.declared.keyword.Part.TheVariants.{Ended}
use Rattle.script_lines.specs.Lines.{lines_of, content_of}
use Rattle.script_text.specs.Standing.{Standing, beginning, after}
use Rattle.script_text.specs.ScriptValue.{ReadScript}

-- The lines of a text without the carriage returns at their ends.
abbrev pub contents_of : List ℕ → List (List ℕ)
contents_of text = map content_of (lines_of text)

-- What lines come to with one more; a fault stays.
abbrev pub goes_on : Result Standing ScriptCause → List ℕ → Result Standing ScriptCause
goes_on (Ok s) line = after s line
goes_on (Err cause) line = Err cause

-- What lines come to, or the cause at the first one that may not stand behind those before it.
abbrev pub come_to : List (List ℕ) → Result Standing ScriptCause
come_to lines = fold goes_on (Ok beginning) lines

-- The script that lines come to.
abbrev pub script_in : Standing → ReadScript
script_in s = record {
  value = record { points = s.points; text = s.text; schedule = s.schedule; scans = s.scans; moments = s.moments };
  text_line = s.text_line;
  swap_lines = s.swap_lines;
}

-- The lines are a script: they come to it, and its END was there.
pub record Spells (lines : List (List ℕ)) (script : ReadScript) : Type 0 where
  pub standing : Standing
  pub good : come_to lines ≡ Ok standing
  pub ended : standing.part ≡ Ended
  pub says : script ≡ script_in standing

-- Some lines go on from these to a script.
abbrev pub Begins : List (List ℕ) → Type 0
Begins lines = (more : List (List ℕ)) × (script : ReadScript) × Spells (lines ++ more) script

-- Line i, from 0, is the first that no script has there: the lines before it begin a script, and with it they don't.
-- The cause is the first rule that it breaks behind them.
pub record IsFirstFault (lines : List (List ℕ)) (i : ℕ) (cause : ScriptCause) : Type 0 where
  pub there : i < length lines
  pub before : Begins (take i lines)
  pub none : Begins (take (i + 1) lines) → ⊥
  pub standing : Standing
  pub behind : come_to (take i lines) ≡ Ok standing
  pub broken : after standing (get_or lines i []) ≡ Err cause

-- The lines are the beginning of a script, and no script.
pub record EndsEarly (lines : List (List ℕ)) : Type 0 where
  pub before : Begins lines
  pub none : (script : ReadScript) → Spells lines script → ⊥

-- A line, from 1, is the first fault for this cause. The input ends too early at the line behind the last.
abbrev pub IsFault : List (List ℕ) → ℕ → ScriptCause → Type 0
IsFault lines line cause =
    ((i : ℕ) × (line ≡ i + 1) × IsFirstFault lines i cause)
    ⊎ ((line ≡ length lines + 1) × (cause ≡ End) × EndsEarly lines)

-- What a reader answers.
abbrev pub IsReading : List ℕ → Result ReadScript ScriptFault → Type 0
IsReading text (Ok script) = Spells (contents_of text) script
IsReading text (Err (At line cause)) = IsFault (contents_of text) line cause
IsReading text (Err NoMemory) = Unit {0}
