use Rattle.std.proofs.Common.{◌≡◌, take}
use Rattle.std.specs.List.{flat_map}
use Rattle.st_tree.specs.Tags.{tags_of_block}
use Rattle.tag_layout.proofs.tags.declared_tags.Given as goal

abbrev pub invariant-loop-block : goal.invariant-loop-block
invariant-loop-block l = l.tags.items ≡ flat_map tags_of_block (take l.block-index l.block-items)
