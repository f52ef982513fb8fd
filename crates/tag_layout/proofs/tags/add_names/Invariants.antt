use Rattle.std.proofs.Common.{◌≡◌, ◌∷◌, ◌++◌, map, take}
use Rattle.st_tree.specs.Tags.{tag_of}
use Rattle.tag_layout.proofs.tags.add_names.Given as goal

abbrev pub invariant-loop-name : goal.invariant-loop-name
invariant-loop-name l = l.tags.items ≡ l.fn.tags.items ++ map (tag_of l.external l.declared l.constant) (l.names.first ∷ take l.name-index l.name-items)
