-- What the bytes that a command reads come to: an output, or a refusal. Own rule.
use Rattle.std.specs.Prelude.{◌≡◌, ℕ, ◌<◌, ◌≤◌, List, length, Option, Some, None}
use Rattle.tri_base.specs.Limits.{text_limit}
use Rattle.engine_face.specs.declared.refusal.Refusal.{Refusal}
use Rattle.engine_face.specs.Meaning.{Meaning}
use Rattle.script_text.specs.IsScript.{IsScript}
use Rattle.script_text.specs.ScriptValue.{ReadScript}
use Rattle.script_text.specs.Spells.{Spells, IsFault, contents_of}
use Rattle.plant_script.specs.FirstRefused.{first_refused_of}
use Rattle.st_build.specs.StructuredText.{structured_text}
use Rattle.cause_effect.specs.Matrices.{MatrixValue}
use Rattle.cause_effect.specs.Programs.{program_of}
use Rattle.cause_effect.specs.Spells as matrices
use Rattle.script_commands.specs.declared.script_command.ScriptCommand.{ScriptCommand}
use Rattle.script_commands.specs.Outputs.{IsOutputOf, IsStuckAt}
use Rattle.tricon.specs.declared.command.Command.{Command}
use Rattle.tricon.specs.declared.command.Command.TheVariants.{Script, Matrix, Make}
use Rattle.tricon.specs.declared.status.RefusedCause.{RefusedCause}
use Rattle.tricon.specs.declared.status.RefusedCause.TheVariants as cause

-- What programs mean over a script's points: that of Structured Text.
abbrev pub meaning_over : ReadScript → Meaning
meaning_over script = structured_text script.value.points

-- ---- scripts

-- The bytes spell a script all of whose blocks are programs; and of it a command writes this, and this is the first
-- scan that isn't calm, where three legs play. What every script has, this one has.
pub record ScriptOutput (command : ScriptCommand) (bytes : List ℕ) (uncalm : Option ℕ) (output : List ℕ) : Type 0 where
  pub script : ReadScript
  pub spells : Spells (contents_of bytes) script
  pub proper : IsScript script.value
  pub builds : first_refused_of (meaning_over script) script ≡ None
  pub is : IsOutputOf command structured_text script.value uncalm output

-- The bytes spell a script all of whose blocks are programs, and its schedule is stuck at this letter, counted from 1.
pub record ScriptStuck (command : ScriptCommand) (bytes : List ℕ) (letter : ℕ) : Type 0 where
  pub script : ReadScript
  pub spells : Spells (contents_of bytes) script
  pub builds : first_refused_of (meaning_over script) script ≡ None
  pub at : IsStuckAt command structured_text script.value letter

-- The bytes spell a script, and its first block that is no program begins in this line, with this refusal.
pub record BuildsNot (bytes : List ℕ) (line : ℕ) (refusal : Refusal) : Type 0 where
  pub script : ReadScript
  pub spells : Spells (contents_of bytes) script
  pub first : first_refused_of (meaning_over script) script ≡ Some (line, refusal)

-- The bytes are no script that can be played, at this line, from 1: they spell no script, and the line is the first
-- that no script has there; or a block is no program.
abbrev pub ScriptRefused : List ℕ → ℕ → RefusedCause → Type 0
ScriptRefused bytes line (cause.Script fault) = IsFault (contents_of bytes) line fault
ScriptRefused bytes line (cause.Program refusal) = BuildsNot bytes line refusal
ScriptRefused bytes line (cause.Matrix fault) = ⊥
ScriptRefused bytes line (cause.MatrixTooLarge count) = ⊥

-- ---- matrices

-- The bytes spell a matrix, and this is its program, which isn't too large.
pub record MatrixOutput (bytes : List ℕ) (uncalm : Option ℕ) (output : List ℕ) : Type 0 where
  pub matrix : MatrixValue
  pub spells : matrices.Spells (matrices.contents_of bytes) matrix
  pub fits : length (program_of matrix) ≤ text_limit
  pub calm : uncalm ≡ None
  pub is : output ≡ program_of matrix

-- The bytes spell a matrix, and its program has so many bytes, which are too many. This is told at line 1.
pub record IsLarge (bytes : List ℕ) (line count : ℕ) : Type 0 where
  pub matrix : MatrixValue
  pub spells : matrices.Spells (matrices.contents_of bytes) matrix
  pub line_is : line ≡ 1
  pub count_is : count ≡ length (program_of matrix)
  pub large : text_limit < count

-- The bytes are no matrix that has a program, at this line: they spell none, and the line is the first that no matrix
-- has there; or the program is too large.
abbrev pub MatrixRefused : List ℕ → ℕ → RefusedCause → Type 0
MatrixRefused bytes line (cause.Script fault) = ⊥
MatrixRefused bytes line (cause.Program refusal) = ⊥
MatrixRefused bytes line (cause.Matrix fault) = matrices.IsFault (matrices.contents_of bytes) line fault
MatrixRefused bytes line (cause.MatrixTooLarge count) = IsLarge bytes line count

-- ---- by the command; `make` reads nothing

-- A command writes this of bytes, and this is the first scan that isn't calm, where three legs play.
abbrev pub IsOutput : Command → List ℕ → (uncalm : Option ℕ) → (output : List ℕ) → Type 0
IsOutput (Script command) bytes uncalm output = ScriptOutput command bytes uncalm output
IsOutput Matrix bytes uncalm output = MatrixOutput bytes uncalm output
IsOutput (Make number scans) bytes uncalm output = ⊥

-- The bytes have a schedule that is stuck at this letter.
abbrev pub IsStuck : Command → List ℕ → (letter : ℕ) → Type 0
IsStuck (Script command) bytes letter = ScriptStuck command bytes letter
IsStuck Matrix bytes letter = ⊥
IsStuck (Make number scans) bytes letter = ⊥

-- The bytes are refused at this line, from 1, for this cause.
abbrev pub IsRefused : Command → List ℕ → (line : ℕ) → RefusedCause → Type 0
IsRefused (Script command) bytes line why = ScriptRefused bytes line why
IsRefused Matrix bytes line why = MatrixRefused bytes line why
IsRefused (Make number scans) bytes line why = ⊥
