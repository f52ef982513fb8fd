-- Typing of whole programs: a program is well typed where it breaks no typing rule. Else its first fault is that with
-- the least byte place and, at one place, that of the rule that comes first. Own rule.
use Rattle.std.specs.Prelude.{◌≡◌, List, [], ◌++◌, Option}
use Rattle.std.specs.List.{flat_map}
use Rattle.tri_base.specs.declared.point.Point.{Point}
use Rattle.tri_base.specs.declared.faults.TypeFault.{TypeFault}
use Rattle.st_tree.specs.declared.program.Tree.{Tree}
use Rattle.st_tree.specs.Tags.{tags_of}
use Rattle.st_tree.specs.Typing.Faults.{first_of}
use Rattle.st_tree.specs.Typing.Declarations.{names_faults, block_faults}
use Rattle.st_tree.specs.Typing.Statements.{Scope, statement_faults}

-- its points and its tags
abbrev pub scope_of : List Point → Tree → Scope
scope_of points tree = record { points = points; tags = tags_of tree }

-- all typing rules that a program breaks over these points, each with its place: by its names, its declarations and its
-- statements
unfoldable pub typing_faults : List Point → Tree → List TypeFault
typing_faults points tree =
    names_faults points [] (tags_of tree)
    ++ flat_map block_faults tree.blocks
    ++ flat_map (statement_faults (scope_of points tree) []) tree.statements

-- none is broken
unfoldable pub WellTyped : List Point → Tree → Type 0
WellTyped points tree = typing_faults points tree ≡ []

-- the first that is broken
unfoldable pub first_typing_fault : List Point → Tree → Option TypeFault
first_typing_fault points tree = first_of (typing_faults points tree)
