use Rattle.std.proofs.Common.{◌≡◌, ◌++◌, take}
use Rattle.std.specs.List.{flat_map}
use Rattle.st_types.proofs.tags.add_plain.Given as goal
use Rattle.st_tree.specs.Tags.{tags_of_declaration}

abbrev pub invariant-loop-d : goal.invariant-loop-d
invariant-loop-d l = l.tags ≡ l.fn.tags ++ flat_map tags_of_declaration (take l.d-index l.declarations)
