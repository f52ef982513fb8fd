use Rattle.std.proofs.Common.{◌≡◌, take}
use Rattle.std.specs.Prelude.{min}
use Rattle.tag_layout.specs.Layout.{total_words, greatest_told}
use Rattle.tag_layout.proofs.types.total_words.Given as goal

abbrev pub invariant-loop-tag : goal.invariant-loop-tag
invariant-loop-tag l = l.total ≡ min (total_words (take l.tag-index l.tags)) greatest_told
