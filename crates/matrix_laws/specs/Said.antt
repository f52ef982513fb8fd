-- What the lines of a matrix say, each by itself, and that a matrix is what its lines say.
use Rattle.std.specs.Prelude.{◌≡◌, ℕ, List, [], ◌∷◌, fold, Option, Some, None, if◌then◌else◌, option_and_then}
use Rattle.std.specs.List.{flat_map}
use Rattle.script_lines.specs.Statements.{begins_comment}
use Rattle.script_lines.specs.Words.{words_of}
use Rattle.cause_effect.specs.declared.matrix.Level.{Level}
use Rattle.cause_effect.specs.declared.matrix.Mode.{Mode}
use Rattle.cause_effect.specs.declared.matrix.Link.{Link}
use Rattle.cause_effect.specs.declared.statement.Statement.{Statement}
use Rattle.cause_effect.specs.declared.statement.Statement.TheVariants.{Cause, Effect, Reset, Link as LinkLine}
use Rattle.cause_effect.specs.Matrices.{MatrixValue}
use Rattle.cause_effect.specs.Statements.{keyword_of, statement_of}
use Rattle.cause_effect.specs.Spells.{Spells}

-- What words say as a line of a matrix, wherever it stands; None: nothing.
abbrev pub said_of_words : List (List ℕ) → Option Statement
said_of_words [] = None
said_of_words (word ∷ words) =
    if begins_comment word then None else option_and_then (λ keyword. statement_of keyword words) (keyword_of word)

-- What a line says.
abbrev pub said_of : List ℕ → Option Statement
said_of line = said_of_words (words_of line)

-- The cause that a CAUSE line says, with its level.
abbrev pub cause_said : Option Statement → List (List ℕ × Level)
cause_said (Some (Cause name level)) = (name, level) ∷ []
cause_said statement = []

-- The effect that an EFFECT line says, with its mode.
abbrev pub effect_said : Option Statement → List (List ℕ × Mode)
effect_said (Some (Effect name mode)) = (name, mode) ∷ []
effect_said statement = []

-- The name that a RESET line says.
abbrev pub reset_said : Option Statement → List (List ℕ)
reset_said (Some (Reset name)) = name ∷ []
reset_said statement = []

-- The link that a LINK line says.
abbrev pub link_said : Option Statement → List Link
link_said (Some (LinkLine link)) = link ∷ []
link_said statement = []

-- The last of some names.
abbrev pub last_name : List (List ℕ) → Option (List ℕ)
last_name names = fold (λ before name. Some name) None names

-- A matrix is what lines say: its causes are those of the CAUSE lines in their order, and so are its effects and its
-- links; its reset is that of the RESET line.
pub record SaysLines (lines : List (List ℕ)) (m : MatrixValue) : Type 0 where
  pub causes : m.causes ≡ flat_map (λ line. cause_said (said_of line)) lines
  pub effects : m.effects ≡ flat_map (λ line. effect_said (said_of line)) lines
  pub reset : m.reset ≡ last_name (flat_map (λ line. reset_said (said_of line)) lines)
  pub links : m.links ≡ flat_map (λ line. link_said (said_of line)) lines

-- So is each matrix that lines spell.
abbrev pub MatricesAreSaid : Type 0
MatricesAreSaid = (lines : List (List ℕ)) (m : MatrixValue) → Spells lines m → SaysLines lines m
