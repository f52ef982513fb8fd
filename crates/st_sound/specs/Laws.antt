-- What typing gives of a program's meaning.
use Rattle.std.specs.Prelude.{List, []}
use Rattle.tri_base.specs.declared.point.Point.{Point}
use Rattle.st_tree.specs.declared.program.Tree.{Tree}
use Rattle.st_tree.specs.Tags.{tags_of}
use Rattle.st_tree.specs.Typing.Programs.{WellTyped}
use Rattle.st_core.specs.Fits.{IsSound}
use Rattle.st_meaning.specs.Programs.{body_of}
use Rattle.st_sound.specs.Shapes.{shape_in}

-- The statements of a well-typed program are a sound act: each field, element and block that they name is there, the
-- numbers of literals, labels and loops can be constants of the machine, no loop's tag is set within the loop, and EXIT
-- stands within a loop.
abbrev pub WellTypedIsSound : Type 0
WellTypedIsSound =
    (points : List Point) → (tree : Tree) → WellTyped points tree
    → IsSound (shape_in (tags_of tree)) [] (body_of tree)
