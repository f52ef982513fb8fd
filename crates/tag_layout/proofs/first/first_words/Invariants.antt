use Rattle.std.proofs.Common.{◌≡◌, take}
use Rattle.std.specs.List.{flat_map}
use Rattle.tag_layout.proofs.FirstValues.{numbers}
use Rattle.tag_layout.proofs.first.first_words.Given as goal

abbrev pub invariant-loop-tag : goal.invariant-loop-tag
invariant-loop-tag l = l.words.list ≡ flat_map numbers (take l.tag-index l.tags)
