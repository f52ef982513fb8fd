-- What holds of the programs of all matrices.
use Rattle.std.specs.Prelude.{◌≡◌, ℕ, ◌<◌, ◌≤◌, ℤ, pos, Bool, List, length, map, zip, Contains, Option, Some, None, unwrap_or, option_to_list}
use Rattle.std.specs.List.{All}
use Rattle.std.specs.Map.{lookup}
use Rattle.std.specs.Str.{bytes_eq}
use Rattle.tri_base.specs.declared.point.Point.{Point}
use Rattle.tri_base.specs.declared.point.PointKind.{PointKind}
use Rattle.tri_base.specs.declared.point.PointKind.TheVariants.{Di, Do}
use Rattle.chassis.specs.Points.{IsChassis, inputs_of, outputs_of}
use Rattle.function_blocks.specs.declared.kinds.Kind.TheVariants.{Bool as BoolKind}
use Rattle.function_blocks.specs.Values.{is_on, number}
use Rattle.st_tree.specs.declared.token.Token.{Token}
use Rattle.st_tree.specs.declared.declaration.DeclaredType.TheVariants.{Simple}
use Rattle.st_tree.specs.declared.program.Tree.{Tree}
use Rattle.st_tree.specs.declared.tag.Tag.{Tag}
use Rattle.st_tree.specs.Lexes.{Lexes}
use Rattle.st_tree.specs.Nesting.{first_too_deep}
use Rattle.st_tree.specs.Programs.{Spells}
use Rattle.st_tree.specs.Tags.{tags_of}
use Rattle.st_tree.specs.Typing.Programs.{WellTyped}
use Rattle.st_core.specs.Environments.{Env, number_of, numbers_of}
use Rattle.st_meaning.specs.Programs.{scan_of, program_cost}
use Rattle.cause_effect.specs.Matrices.{MatrixValue, IsMatrix, cause_names, effect_names, declared_names, matrix_step}
use Rattle.cause_effect.specs.Programs.{program_of}

-- A text spells tokens, none of which nests too deep, and the tree spells these tokens.
pub record HasTree (text : List ℕ) (tree : Tree) : Type 0 where
  pub tokens : List Token
  pub lexes : Lexes text tokens
  pub low : first_too_deep tokens ≡ None
  pub spells : Spells tree tokens

-- A chassis has a point of this kind with this name.
abbrev pub HasPoint : List Point → PointKind → List ℕ → Type 0
HasPoint points kind name = (p : Point) × Contains points p × (p.name ≡ name) × (p.kind ≡ kind)

-- A chassis that a matrix is made for: the causes and the reset are discrete inputs, and the effects discrete outputs.
pub record Suits (points : List Point) (m : MatrixValue) : Type 0 where
  pub causes : All (HasPoint points Di) (cause_names m)
  pub effects : All (HasPoint points Do) (effect_names m)
  pub reset : All (HasPoint points Di) (option_to_list m.reset)

-- ---- what a scan does

-- Whether an environment holds TRUE for a name.
abbrev pub held_of : Env → List ℕ → Bool
held_of env name = is_on (number_of env name 0)

-- The value that stands for the point of a name, where points have these values.
abbrev pub value_named : List Point → List ℤ → List ℕ → Option ℤ
value_named points values name = lookup (bytes_eq name) (zip (map (λ p. p.name) points) values)

-- Whether the inputs of a scan give TRUE to the point of a name.
abbrev pub read_of : List Point → List ℤ → List ℕ → Bool
read_of points inputs name = is_on (unwrap_or (value_named (inputs_of points) inputs name) (pos 0))

-- A scan does a step of the matrix: the outputs of the effects are those of the step, by what the environment held for
-- the effects before and by the inputs; and the environment holds them afterwards.
pub record DoesStep (points : List Point) (m : MatrixValue) (tree : Tree) (env : Env) (inputs : List ℤ) (dt : ℤ)
    : Type 0 where
  pub outputs : map (λ e. value_named (outputs_of points) (scan_of points tree env inputs dt).outputs e.0) m.effects
      ≡ map (λ b. Some (number b)) (matrix_step m (held_of env) (read_of points inputs))
  pub held : map (λ e. held_of (scan_of points tree env inputs dt).env e.0) m.effects
      ≡ matrix_step m (held_of env) (read_of points inputs)

-- So does each scan, from each environment that has a number for each declared name, and for each inputs.
abbrev pub DoesSteps : List Point → MatrixValue → Tree → Type 0
DoesSteps points m tree =
    (env : Env) (inputs : List ℤ) (dt : ℤ) → All (λ n. 0 < length (numbers_of n env)) (declared_names m)
    → length inputs ≡ length (inputs_of points) → DoesStep points m tree env inputs dt

-- ---- the law

-- A tree of which a scan takes no more instructions than the program of a matrix has bytes, and whose tags are a BOOL
-- for each name of the matrix.
pub record IsSmall (m : MatrixValue) (tree : Tree) : Type 0 where
  pub cheap : program_cost tree ≤ length (program_of m)
  pub tags : map (λ t. t.name) (tags_of tree) ≡ declared_names m
  pub bools : All (λ (t : Tag). t.declared ≡ Simple BoolKind) (tags_of tree)

-- The program of each matrix spells a tree, which is small, is well typed over each chassis that the matrix is made
-- for, and of which each scan there does a step of the matrix.
abbrev pub ProgramsDoSteps : Type 0
ProgramsDoSteps =
    (m : MatrixValue) → IsMatrix m
    → (tree : Tree) × HasTree (program_of m) tree × IsSmall m tree
    × ((points : List Point) → IsChassis points → Suits points m → WellTyped points tree × DoesSteps points m tree)
