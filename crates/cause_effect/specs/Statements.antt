-- What a line of a matrix says by itself, and the order of the lines (own rules).
use Rattle.std.specs.Prelude.{ℕ, Bool, true, false, List, [], ◌∷◌, Option, Some, None, codes, if◌then◌else◌, option_map, option_and_then}
use Rattle.std.specs.Str.{bytes_eq}
use Rattle.tri_base.specs.Names.{name_of}
use Rattle.cause_effect.specs.declared.keyword.Keyword.{Keyword}
use Rattle.cause_effect.specs.declared.keyword.Keyword.TheVariants.{Matrix, Cause, Effect, Reset, Link, End}
use Rattle.cause_effect.specs.declared.matrix.Level.{Level}
use Rattle.cause_effect.specs.declared.matrix.Level.TheVariants.{High, Low}
use Rattle.cause_effect.specs.declared.matrix.Mode.{Mode}
use Rattle.cause_effect.specs.declared.matrix.Mode.TheVariants.{Latch, Follow}
use Rattle.cause_effect.specs.declared.statement.Statement.{Statement}
use Rattle.cause_effect.specs.declared.statement.Statement.TheVariants.{Heading, Cause as CauseLine, Effect as EffectLine, Reset as ResetLine, Link as LinkLine, End as EndLine}

-- The keyword that a line's first word is, capitals alone.
abbrev pub keyword_of : List ℕ → Option Keyword
keyword_of word =
    if bytes_eq word (codes "LINK") then Some Link
    else if bytes_eq word (codes "CAUSE") then Some Cause
    else if bytes_eq word (codes "EFFECT") then Some Effect
    else if bytes_eq word (codes "RESET") then Some Reset
    else if bytes_eq word (codes "MATRIX") then Some Matrix
    else if bytes_eq word (codes "END") then Some End
    else None

-- Whether a line with the second keyword may stand behind one with the first, with nothing between them but lines that
-- are passed over; None: nothing stands before.
abbrev pub may_follow : Option Keyword → Keyword → Bool
may_follow None Matrix = true
may_follow (Some Matrix) Cause = true
may_follow (Some Matrix) Effect = true
may_follow (Some Matrix) Reset = true
may_follow (Some Matrix) Link = true
may_follow (Some Matrix) End = true
may_follow (Some Cause) Cause = true
may_follow (Some Cause) Effect = true
may_follow (Some Cause) Reset = true
may_follow (Some Cause) Link = true
may_follow (Some Cause) End = true
may_follow (Some Effect) Effect = true
may_follow (Some Effect) Reset = true
may_follow (Some Effect) Link = true
may_follow (Some Effect) End = true
may_follow (Some Reset) Link = true
may_follow (Some Reset) End = true
may_follow (Some Link) Link = true
may_follow (Some Link) End = true
may_follow last next = false

-- The level that a word names.
abbrev pub level_word : List ℕ → Option Level
level_word word =
    if bytes_eq word (codes "HIGH") then Some High
    else if bytes_eq word (codes "LOW") then Some Low
    else None

-- The mode that a word names.
abbrev pub mode_word : List ℕ → Option Mode
mode_word word =
    if bytes_eq word (codes "LATCH") then Some Latch
    else if bytes_eq word (codes "FOLLOW") then Some Follow
    else None

-- `MATRIX 1`
abbrev pub heading : List (List ℕ) → Option Statement
heading (version ∷ []) = if bytes_eq version (codes "1") then Some Heading else None
heading words = None

-- `CAUSE name HIGH`, `CAUSE name LOW`
abbrev pub cause_line : List (List ℕ) → Option Statement
cause_line (name ∷ level ∷ []) =
    option_and_then (λ name. option_map (λ level. CauseLine name level) (level_word level)) (name_of name)
cause_line words = None

-- `EFFECT name LATCH`, `EFFECT name FOLLOW`
abbrev pub effect_line : List (List ℕ) → Option Statement
effect_line (name ∷ mode ∷ []) =
    option_and_then (λ name. option_map (λ mode. EffectLine name mode) (mode_word mode)) (name_of name)
effect_line words = None

-- `RESET name`
abbrev pub reset_line : List (List ℕ) → Option Statement
reset_line (name ∷ []) = option_map (λ name. ResetLine name) (name_of name)
reset_line words = None

-- `LINK cause effect`
abbrev pub link_line : List (List ℕ) → Option Statement
link_line (cause ∷ effect ∷ []) =
    option_and_then (λ cause. option_map (λ effect. LinkLine (record { cause = cause; effect = effect }))
    (name_of effect)) (name_of cause)
link_line words = None

-- `END`
abbrev pub end_line : List (List ℕ) → Option Statement
end_line [] = Some EndLine
end_line (word ∷ words) = None

-- What a line says, by its keyword and the words behind it; None: they haven't the line's shape.
abbrev pub statement_of : Keyword → List (List ℕ) → Option Statement
statement_of Matrix words = heading words
statement_of Cause words = cause_line words
statement_of Effect words = effect_line words
statement_of Reset words = reset_line words
statement_of Link words = link_line words
statement_of End words = end_line words
