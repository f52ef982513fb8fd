-- Cause and effect matrices: which inputs call which outputs (own rule).
use Rattle.std.specs.Prelude.{◌≡◌, ◌≢◌, ℕ, ◌≤◌, Bool, false, not, ◌&&◌, ◌||◌, List, ◌++◌, length, map, filter, Contains, Option, Some, None, option_to_list, unwrap_or}
use Rattle.std.specs.List.{list_any, All, AllPairs}
use Rattle.std.specs.Map.{lookup}
use Rattle.std.specs.Str.{bytes_eq}
use Rattle.tri_base.specs.Names.{name_of}
use Rattle.st_tree.specs.Words.{reserved_word}
use Rattle.cause_effect.specs.declared.matrix.Level.{Level}
use Rattle.cause_effect.specs.declared.matrix.Level.TheVariants.{High, Low}
use Rattle.cause_effect.specs.declared.matrix.Mode.{Mode}
use Rattle.cause_effect.specs.declared.matrix.Mode.TheVariants.{Latch, Follow}
use Rattle.cause_effect.specs.declared.matrix.Link.{Link}

-- The most causes that a matrix has, and the most effects.
abbrev pub row_limit : ℕ
row_limit = 64

-- A cause and effect matrix.
pub record MatrixValue : Type 0 where
  -- the causes in their order: the name of an input, and at which level of it the cause is active
  pub causes : List (List ℕ × Level)
  -- the effects in their order: the name of an output, and whether it latches or follows
  pub effects : List (List ℕ × Mode)
  -- the name of the input that resets effects that latch
  pub reset : Option (List ℕ)
  -- the links in their order, each from a cause to an effect
  pub links : List Link

-- The names of the causes, in their order.
abbrev pub cause_names : MatrixValue → List (List ℕ)
cause_names m = map (λ c. c.0) m.causes

-- The names of the effects, in their order.
abbrev pub effect_names : MatrixValue → List (List ℕ)
effect_names m = map (λ e. e.0) m.effects

-- All names that a matrix declares: those of its causes, of its effects, and of its reset.
abbrev pub declared_names : MatrixValue → List (List ℕ)
declared_names m = cause_names m ++ effect_names m ++ option_to_list m.reset

-- At which level of its input a cause is active. Each link of a matrix has a cause of it; for other names it says HIGH.
abbrev pub level_of : MatrixValue → List ℕ → Level
level_of m cause = unwrap_or (lookup (bytes_eq cause) m.causes) High

-- The links that lead to an effect, in their order.
abbrev pub links_to : MatrixValue → List ℕ → List Link
links_to m effect = filter (λ l. bytes_eq l.effect effect) m.links

-- A name that may be declared: it is written in capitals, and is no reserved word of Structured Text.
abbrev pub IsFree : List ℕ → Type 0
IsFree name = (name_of name ≡ Some name) × (reserved_word name ≡ None)

-- What holds of every matrix.
pub record IsMatrix (m : MatrixValue) : Type 0 where
  -- no name is declared twice
  pub apart : AllPairs (λ (a b : List ℕ). a ≢ b) (declared_names m)
  -- each may be declared
  pub free : All IsFree (declared_names m)
  pub few_causes : length m.causes ≤ row_limit
  pub few_effects : length m.effects ≤ row_limit
  -- no link is there twice
  pub links_apart : AllPairs (λ (a b : Link). a ≢ b) m.links
  -- and each leads from a cause to an effect
  pub links_known : All (λ (l : Link). Contains (cause_names m) l.cause × Contains (effect_names m) l.effect) m.links

-- A cause is active where its input is TRUE and it is HIGH, or where its input is FALSE and it is LOW.
abbrev pub is_active : Level → (input : Bool) → Bool
is_active High input = input
is_active Low input = not input

-- An effect is called where a cause that is linked to it is active.
abbrev pub is_called : MatrixValue → (inputs : List ℕ → Bool) → List ℕ → Bool
is_called m inputs effect = list_any (λ l. is_active (level_of m l.cause) (inputs l.cause)) (links_to m effect)

-- Whether the reset's input is TRUE.
abbrev pub is_reset : Option (List ℕ) → (inputs : List ℕ → Bool) → Bool
is_reset (Some reset) inputs = inputs reset
is_reset None inputs = false

-- What an effect is after a scan. One that follows is TRUE exactly where it is called. One that latches is TRUE where
-- it is called, else FALSE where the reset is TRUE, else as it was before.
abbrev pub effect_after : Mode → (called reset before : Bool) → Bool
effect_after Follow called reset before = called
effect_after Latch called reset before = called || (not reset && before)

-- The effects of a matrix after a scan, in their order, from what they were before it and from its inputs, both by
-- name.
abbrev pub matrix_step : MatrixValue → (before inputs : List ℕ → Bool) → List Bool
matrix_step m before inputs =
    map (λ e. effect_after e.1 (is_called m inputs e.0) (is_reset m.reset inputs) (before e.0)) m.effects
