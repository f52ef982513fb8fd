-- Which texts are programs over points: those that the front end takes and whose scans cost no more than the limit.
-- Own rule.
use Rattle.std.specs.Prelude.{◌≡◌, ℕ, ◌<◌, ◌≤◌, nat_lt, min, ℤ, pos, if◌then◌else◌, List, [], Option, Some, None, Result, Ok, Err}
use Rattle.tri_base.specs.declared.point.Point.{Point}
use Rattle.st_tree.specs.declared.program.Tree.{Tree}
use Rattle.st_tree.specs.declared.tag.Tag.{Tag}
use Rattle.st_tree.specs.Tags.{tags_of}
use Rattle.st_meaning.specs.Programs.{program_cost}
use Rattle.code_size.specs.Limits.{greatest_told}
use Rattle.scan_code.specs.Limits.{cost_limit}
use Rattle.engine_face.specs.declared.refusal.Refusal.{Refusal}
use Rattle.engine_face.specs.declared.refusal.Refusal.TheVariants.{TooLong}
use Rattle.st_front.specs.FrontEnd.{IsProgram, IsRefused}
use Rattle.st_front.specs.Judging.{front_of}

-- ---- as relations

-- A text is a program that runs, with this tree: a scan of it costs no more than the limit.
pub record Runs (points : List Point) (text : List ℕ) (tree : Tree) : Type 0 where
  pub is : IsProgram points text tree
  pub cheap : program_cost tree ≤ cost_limit

-- A text is a program of which a scan may cost more: so much, or the greatest number that is told.
pub record IsTooLong (points : List Point) (text : List ℕ) (cost : ℤ) : Type 0 where
  pub tree : Tree
  pub is : IsProgram points text tree
  pub dear : cost_limit < program_cost tree
  pub told : cost ≡ pos (min (program_cost tree) greatest_told)

-- The first reason why a text is no program that runs: one of the front end's, or else that it is too long.
abbrev pub IsRejected : List Point → List ℕ → Refusal → Type 0
IsRejected points text (TooLong cost) = IsTooLong points text cost
IsRejected points text refusal = IsRefused points text refusal

-- ---- as a function, which a law shows to say the same

-- A program, by what a scan of it costs at most.
abbrev pub program_of_cost : Tree → ℕ → Result Tree Refusal
program_of_cost tree cost =
    if nat_lt cost_limit cost then Err (TooLong (pos (min cost greatest_told))) else Ok tree

-- What the front end answers, by what a scan costs at most.
abbrev pub program_of_front : Result Tree Refusal → Result Tree Refusal
program_of_front (Ok tree) = program_of_cost tree (program_cost tree)
program_of_front (Err refusal) = Err refusal

-- The program that a text is over points, told by its tree, or the first reason against it.
unfoldable pub program_of : List Point → List ℕ → Result Tree Refusal
program_of points text = program_of_front (front_of points text)

-- The reason against a text, if it is no program.
abbrev pub refusal_in : Result Tree Refusal → Option Refusal
refusal_in (Ok tree) = None
refusal_in (Err refusal) = Some refusal

-- The tags of a program; none where a text is none.
abbrev pub tags_in : Result Tree Refusal → List Tag
tags_in (Ok tree) = tags_of tree
tags_in (Err refusal) = []

-- The tags of the program that a text is over points.
abbrev pub tags_at : List Point → List ℕ → List Tag
tags_at points text = tags_in (program_of points text)
