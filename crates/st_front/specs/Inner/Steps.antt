-- Nobody has to believe what stands here: it serves private functions alone.
-- The steps of the front end.
use Rattle.std.specs.Prelude.{◌≡◌, ℕ, List, Result, Ok, Err}
use Rattle.tri_base.specs.declared.point.Point.{Point}
use Rattle.st_tree.specs.declared.program.Tree.{Tree}
use Rattle.st_tree.specs.Typing.Programs.{WellTyped}
use Rattle.st_tree.specs.Typing.TypedPrograms.{TypedProgram}
use Rattle.st_front.specs.FrontEnd.{HasTree, IsRefused}
use Rattle.engine_face.specs.declared.refusal.Refusal.{Refusal}

-- The tree of a text, or the first reason against it, over any points.
abbrev pub ReadsTree : List ℕ → Result Tree Refusal → Type 0
ReadsTree text (Ok tree) = HasTree text tree
ReadsTree text (Err refusal) = (points : List Point) → IsRefused points text refusal

-- The typed tree of a text, or the first reason against it.
abbrev pub Checked : List Point → List ℕ → Result TypedProgram Refusal → Type 0
Checked points text (Ok typed) = HasTree text typed.tree × WellTyped points typed.tree × (typed.points ≡ points)
Checked points text (Err refusal) = IsRefused points text refusal
