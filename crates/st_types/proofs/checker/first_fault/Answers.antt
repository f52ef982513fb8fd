use Rattle.std.proofs.Common.{◌≡◌, [], ◌++◌, ap, ◌∙◌}
use Rattle.std.specs.List.{flat_map}
use Rattle.st_types.proofs.Lists.{two_parts}
use Rattle.st_types.proofs.checker.first_fault.Goals as goal
use Rattle.st_tree.specs.Typing.Faults.{first_of}
use Rattle.st_tree.specs.Tags.{tags_of}
use Rattle.st_tree.specs.Typing.Declarations.{names_faults, block_faults}
use Rattle.st_tree.specs.Typing.Statements.{statement_faults}
use Rattle.st_tree.specs.Typing.Programs.{scope_of, typing_faults, first_typing_fault}

pub returns : goal.returns
unfolding typing_faults first_typing_fault
returns c =
    let points = c.args.chassis.now in
    let tree = c.args.tree.now in
    let names : c.names_fault-names.result ≡ first_of (names_faults points [] (tags_of tree)) = c.names_fault-names.ensures ∙ ap (λ ts. first_of (names_faults points [] ts)) c.in_ok-tags.ensures in
    let blocks : c.blocks_fault.result ≡ first_of (flat_map block_faults tree.blocks) = c.blocks_fault.ensures ∙ ap (λ bs. first_of (flat_map block_faults bs)) c.as_slice.ensures in
    let statements : c.in_ok-statements.statements ≡ first_of (flat_map (statement_faults (scope_of points tree) []) tree.statements) =
    c.in_ok-statements.ensures ∙ λ i. first_of (flat_map (statement_faults (record { points = points; tags = c.in_ok-tags.ensures i }) []) (c.as_slice-2.ensures i)) in
    c.soonest.ensures ∙ two_parts (names_faults points [] (tags_of tree) ++ flat_map block_faults tree.blocks) (flat_map (statement_faults (scope_of points tree) []) tree.statements) _ _
    (c.soonest-declarations.ensures ∙ two_parts (names_faults points [] (tags_of tree)) (flat_map block_faults tree.blocks) _ _ names blocks) statements
