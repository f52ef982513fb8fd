use Rattle.std.proofs.Common.{◌≡◌, ◌∷◌, ◌++◌, map, take}
use Rattle.st_types.proofs.tags.add_names.Given as goal
use Rattle.st_tree.specs.Tags.{tag_of}

abbrev pub invariant-loop-name : goal.invariant-loop-name
invariant-loop-name l = l.tags ≡ l.fn.tags ++ map (tag_of l.external l.declared l.constant) (l.names.first ∷ take l.name-index l.name-items)
