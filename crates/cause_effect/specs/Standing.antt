-- What the lines of a matrix come to: what each adds to those before it, or why it may not stand behind them (own
-- rules).
use Rattle.std.specs.Prelude.{ℕ, Bool, false, ◌&&◌, nat_le, List, [], ◌∷◌, ◌++◌, length, is_some, Option, Some, None, Result, Ok, Err, if◌then◌else◌}
use Rattle.std.specs.List.{list_any}
use Rattle.std.specs.Str.{bytes_eq}
use Rattle.st_tree.specs.Words.{reserved_word}
use Rattle.script_lines.specs.Statements.{begins_comment}
use Rattle.script_lines.specs.Words.{words_of}
use Rattle.cause_effect.specs.declared.fault.MatrixCause.{MatrixCause}
use Rattle.cause_effect.specs.declared.fault.MatrixCause.TheVariants.{Word, Form, Reserved, Twice, Unknown, Full}
use Rattle.cause_effect.specs.declared.keyword.Keyword.{Keyword}
use Rattle.cause_effect.specs.declared.matrix.Level.{Level}
use Rattle.cause_effect.specs.declared.matrix.Mode.{Mode}
use Rattle.cause_effect.specs.declared.matrix.Link.{Link}
use Rattle.cause_effect.specs.declared.statement.Statement.{Statement}
use Rattle.cause_effect.specs.declared.statement.Statement.TheVariants.{Heading, Cause as CauseLine, Effect as EffectLine, Reset as ResetLine, Link as LinkLine, End as EndLine}
use Rattle.cause_effect.specs.Matrices.{MatrixValue, cause_names, effect_names, declared_names, row_limit}
use Rattle.cause_effect.specs.Statements.{keyword_of, may_follow, statement_of}

-- A matrix that declares nothing.
abbrev pub no_matrix : MatrixValue
no_matrix = record { causes = []; effects = []; reset = None; links = [] }

-- Whether a name is a reserved word of Structured Text.
abbrev pub is_reserved : List ℕ → Bool
is_reserved name = is_some (reserved_word name)

-- Whether a name is among some.
abbrev pub is_among : List (List ℕ) → List ℕ → Bool
is_among names name = list_any (bytes_eq name) names

-- Whether a link is among some.
abbrev pub is_link_among : List Link → Link → Bool
is_link_among links link = list_any (λ l. bytes_eq link.cause l.cause && bytes_eq link.effect l.effect) links

-- A matrix with a cause more.
abbrev pub with_cause : MatrixValue → List ℕ → Level → MatrixValue
with_cause m name level = record m { causes = m.causes ++ (name, level) ∷ [] }

-- A matrix with an effect more.
abbrev pub with_effect : MatrixValue → List ℕ → Mode → MatrixValue
with_effect m name mode = record m { effects = m.effects ++ (name, mode) ∷ [] }

-- A matrix with its reset.
abbrev pub with_reset : MatrixValue → List ℕ → MatrixValue
with_reset m name = record m { reset = Some name }

-- A matrix with a link more.
abbrev pub with_link : MatrixValue → Link → MatrixValue
with_link m link = record m { links = m.links ++ link ∷ [] }

-- Why a name can't be declared: it is a reserved word, it is declared already, or there is no room for it.
abbrev pub refusal_of : MatrixValue → List ℕ → (full : Bool) → Option MatrixCause
refusal_of m name full =
    if is_reserved name then Some Reserved
    else if is_among (declared_names m) name then Some Twice
    else if full then Some Full
    else None

-- A matrix with a name more, unless something forbids it.
abbrev pub unless : Option MatrixCause → MatrixValue → Result MatrixValue MatrixCause
unless None more = Ok more
unless (Some cause) more = Err cause

-- A link is added: it wasn't there before, and leads from a cause to an effect.
abbrev pub linked : MatrixValue → Link → Result MatrixValue MatrixCause
linked m link =
    if is_link_among m.links link then Err Twice
    else if is_among (cause_names m) link.cause && is_among (effect_names m) link.effect then Ok (with_link m link)
    else Err Unknown

-- A line of the right shape, by what it says: the matrix with it, or the first rule that it breaks.
abbrev pub stated : MatrixValue → Statement → Result MatrixValue MatrixCause
stated m Heading = Ok m
stated m (CauseLine name level) =
    unless (refusal_of m name (nat_le row_limit (length m.causes))) (with_cause m name level)
stated m (EffectLine name mode) =
    unless (refusal_of m name (nat_le row_limit (length m.effects))) (with_effect m name mode)
stated m (ResetLine name) = unless (refusal_of m name false) (with_reset m name)
stated m (LinkLine link) = linked m link
stated m EndLine = Ok m

-- What lines come to: the keyword of the last one that wasn't passed over, and the matrix that they say.
pub record Standing : Type 0 where
  pub last : Option Keyword
  pub matrix : MatrixValue

-- No line comes to this.
abbrev pub beginning : Standing
beginning = record { last = None; matrix = no_matrix }

-- A line that says something stands behind the others.
abbrev pub behind : Keyword → Result MatrixValue MatrixCause → Result Standing MatrixCause
behind keyword (Ok matrix) = Ok (record { last = Some keyword; matrix = matrix })
behind keyword (Err cause) = Err cause

-- A line whose rest hasn't its shape is a fault.
abbrev pub shaped : Standing → Keyword → Option Statement → Result Standing MatrixCause
shaped s keyword (Some statement) = behind keyword (stated s.matrix statement)
shaped s keyword None = Err Form

-- A line by its keyword and the words behind it.
abbrev pub worded : Standing → Option Keyword → List (List ℕ) → Result Standing MatrixCause
worded s (Some keyword) words =
    if may_follow s.last keyword then shaped s keyword (statement_of keyword words) else Err Word
worded s None words = Err Word

-- A line by its words: one without words is passed over, and one whose first word begins with `#`.
abbrev pub spoken : Standing → List (List ℕ) → Result Standing MatrixCause
spoken s [] = Ok s
spoken s (word ∷ words) = if begins_comment word then Ok s else worded s (keyword_of word) words

-- What lines come to with one more, or the first rule that that one breaks behind them.
abbrev pub after : Standing → List ℕ → Result Standing MatrixCause
after s content = spoken s (words_of content)
