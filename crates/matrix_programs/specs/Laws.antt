-- Matrices run as programs of Structured Text.
use Rattle.std.specs.Prelude.{◌≡◌, ◌≤◌, List, length, Ok}
use Rattle.tri_base.specs.Limits.{text_limit}
use Rattle.tri_base.specs.declared.point.Point.{Point}
use Rattle.chassis.specs.Points.{IsChassis}
use Rattle.st_tree.specs.declared.program.Tree.{Tree}
use Rattle.st_build.specs.Building.{Runs, program_of}
use Rattle.cause_effect.specs.Matrices.{MatrixValue, IsMatrix}
use Rattle.cause_effect.specs.Programs as matrix
use Rattle.matrix_laws.specs.Laws.{Suits, DoesSteps}

-- A matrix runs over points: its program is one that runs there, with this tree, and is the one that the engine builds;
-- and each scan of it does a step of the matrix.
pub record RunsMatrix (points : List Point) (m : MatrixValue) (tree : Tree) : Type 0 where
  pub runs : Runs points (matrix.program_of m) tree
  pub builds : program_of points (matrix.program_of m) ≡ Ok tree
  pub steps : DoesSteps points m tree

-- So does each matrix whose program isn't too large, over each chassis that it is made for.
abbrev pub MatricesRun : Type 0
MatricesRun =
    (points : List Point) (m : MatrixValue) → IsMatrix m → IsChassis points → Suits points m
    → length (matrix.program_of m) ≤ text_limit → (tree : Tree) × RunsMatrix points m tree
