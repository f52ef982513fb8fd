-- Which texts are matrices, and where one isn't: the first line that no matrix has there (own rules).
use Rattle.std.specs.Prelude.{◌≡◌, ℕ, ◌+◌, ◌<◌, List, [], ◌++◌, length, map, fold, take, get_or, ◌⊎◌, Some, Result, Ok, Err}
use Rattle.script_lines.specs.Lines.{lines_of, content_of}
use Rattle.cause_effect.specs.declared.fault.MatrixCause.{MatrixCause}
use Rattle.cause_effect.specs.declared.fault.MatrixCause.TheVariants.{End as EarlyEnd}
use Rattle.cause_effect.specs.declared.fault.MatrixFault.{MatrixFault}
use Rattle.cause_effect.specs.declared.fault.MatrixFault.TheVariants.{At, NoMemory}
use Rattle.cause_effect.specs.declared.keyword.Keyword.TheVariants.{End}
use Rattle.cause_effect.specs.Matrices.{MatrixValue}
use Rattle.cause_effect.specs.Standing.{Standing, beginning, after}

-- The lines of a text without the carriage returns at their ends.
abbrev pub contents_of : List ℕ → List (List ℕ)
contents_of text = map content_of (lines_of text)

-- What lines come to with one more; a fault stays.
abbrev pub goes_on : Result Standing MatrixCause → List ℕ → Result Standing MatrixCause
goes_on (Ok s) line = after s line
goes_on (Err cause) line = Err cause

-- What lines come to, or the cause at the first one that may not stand behind those before it.
abbrev pub come_to : List (List ℕ) → Result Standing MatrixCause
come_to lines = fold goes_on (Ok beginning) lines

-- The lines are a matrix: they come to it, and END was the last that wasn't passed over.
abbrev pub Spells : List (List ℕ) → MatrixValue → Type 0
Spells lines matrix = come_to lines ≡ Ok (record { last = Some End; matrix = matrix })

-- Some lines go on from these to a matrix.
abbrev pub Begins : List (List ℕ) → Type 0
Begins lines = (more : List (List ℕ)) × (matrix : MatrixValue) × Spells (lines ++ more) matrix

-- Line i, from 0, is the first that no matrix has there: the lines before it begin a matrix, and with it they don't.
-- The cause is the first rule that it breaks behind them.
pub record IsFirstFault (lines : List (List ℕ)) (i : ℕ) (cause : MatrixCause) : Type 0 where
  pub there : i < length lines
  pub before : Begins (take i lines)
  pub none : Begins (take (i + 1) lines) → ⊥
  pub standing : Standing
  pub stands : come_to (take i lines) ≡ Ok standing
  pub broken : after standing (get_or lines i []) ≡ Err cause

-- The lines are the beginning of a matrix, and no matrix.
pub record EndsEarly (lines : List (List ℕ)) : Type 0 where
  pub before : Begins lines
  pub none : (matrix : MatrixValue) → Spells lines matrix → ⊥

-- A line, from 1, is the first fault for this cause. A text that ends too early has it at the line behind its last.
abbrev pub IsFault : List (List ℕ) → ℕ → MatrixCause → Type 0
IsFault lines line cause =
    ((i : ℕ) × (line ≡ i + 1) × IsFirstFault lines i cause)
    ⊎ ((line ≡ length lines + 1) × (cause ≡ EarlyEnd) × EndsEarly lines)

-- What a reader answers: the matrix that the text spells, or its first fault.
abbrev pub IsReading : List ℕ → Result MatrixValue MatrixFault → Type 0
IsReading text (Ok matrix) = Spells (contents_of text) matrix
IsReading text (Err (At line cause)) = IsFault (contents_of text) line cause
IsReading text (Err NoMemory) = Unit {0}
