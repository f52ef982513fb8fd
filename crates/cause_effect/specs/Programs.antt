-- The Structured Text program of a matrix (own rule).
use Rattle.std.specs.Prelude.{◌≡◌, ℕ, ◌<◌, List, [], ◌++◌, length, Option, Some, None, codes}
use Rattle.std.specs.List.{flat_map}
use Rattle.tri_base.specs.Limits.{text_limit}
use Rattle.cause_effect.specs.declared.fault.ProgramFault.{ProgramFault}
use Rattle.cause_effect.specs.declared.fault.ProgramFault.TheVariants.{TooLarge, NoMemory}
use Rattle.cause_effect.specs.declared.matrix.Level.{Level}
use Rattle.cause_effect.specs.declared.matrix.Level.TheVariants.{High, Low}
use Rattle.cause_effect.specs.declared.matrix.Mode.{Mode}
use Rattle.cause_effect.specs.declared.matrix.Mode.TheVariants.{Latch, Follow}
use Rattle.cause_effect.specs.Matrices.{MatrixValue, declared_names, level_of, links_to}

-- ` OR cause`, or ` OR NOT cause` for one that is active where its input is FALSE.
abbrev pub cause_term : Level → List ℕ → List ℕ
cause_term High cause = codes " OR " ++ cause
cause_term Low cause = codes " OR NOT " ++ cause

-- ` AND NOT reset`, where there is a reset.
abbrev pub reset_term : Option (List ℕ) → List ℕ
reset_term (Some reset) = codes " AND NOT " ++ reset
reset_term None = []

-- What keeps an effect TRUE: for one that latches itself, unless it is reset, and for one that follows nothing.
abbrev pub hold_term : Mode → Option (List ℕ) → List ℕ → List ℕ
hold_term Follow reset effect = []
hold_term Latch reset effect = codes " OR " ++ (effect ++ reset_term reset)

-- `name : BOOL;`
abbrev pub declaration_line : List ℕ → List ℕ
declaration_line name = name ++ codes " : BOOL;\n"

-- The line of an effect: FALSE, or a cause that is linked to it, or what keeps it TRUE.
abbrev pub effect_text : MatrixValue → List ℕ × Mode → List ℕ
effect_text m effect =
    effect.0 ++ (codes " := FALSE"
    ++ (flat_map (λ l. cause_term (level_of m l.cause) l.cause) (links_to m effect.0)
    ++ (hold_term effect.1 m.reset effect.0 ++ codes ";\n")))

-- The program of a matrix: it declares the names of the causes, the effects and the reset in this order, and has a line
-- for each effect.
abbrev pub program_of : MatrixValue → List ℕ
program_of m =
    codes "PROGRAM MATRIX\nVAR_EXTERNAL\n"
    ++ (flat_map declaration_line (declared_names m)
    ++ (codes "END_VAR\n"
    ++ (flat_map (effect_text m) m.effects
    ++ codes "END_PROGRAM\n")))

-- A program is refused because it is too large: it has these bytes, which are more than the text of a program may have.
-- The other fault is that memory failed.
abbrev pub IsTooLarge : List ℕ → ProgramFault → Type 0
IsTooLarge program (TooLarge bytes) = (bytes ≡ length program) × (text_limit < length program)
IsTooLarge program NoMemory = Unit {0}
