-- A program that is well typed over a list of points.
use Rattle.std.specs.Prelude.{List}
use Rattle.tri_base.specs.declared.point.Point.{Point}
use Rattle.st_tree.specs.declared.program.Tree.{Tree}

-- its tree, and the points
pub record TypedProgram : Type 0 where
  pub tree : Tree
  pub points : List Point
