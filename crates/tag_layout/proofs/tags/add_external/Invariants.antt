use Rattle.std.proofs.Common.{◌≡◌, ◌++◌, take}
use Rattle.std.specs.List.{flat_map}
use Rattle.st_tree.specs.Tags.{tags_of_external}
use Rattle.tag_layout.proofs.tags.add_external.Given as goal

abbrev pub invariant-loop-d : goal.invariant-loop-d
invariant-loop-d l = l.tags.items ≡ l.fn.tags.items ++ flat_map tags_of_external (take l.d-index l.declarations)
