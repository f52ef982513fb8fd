use Rattle.std.proofs.Common.{◌≡◌, map, take}
use Rattle.std.specs.List.{enumerate_from}
use Rattle.tag_layout.specs.Layout.{total_words}
use Rattle.tag_layout.proofs.Placing.{placed_in}
use Rattle.tag_layout.proofs.placed.place_tags.Given as goal

abbrev pub invariant-loop-tag : goal.invariant-loop-tag
invariant-loop-tag l =
    (l.placed.items ≡ map (placed_in l.tags) (enumerate_from 0 (take l.tag-index l.tags))) × (l.address ≡ total_words (take l.tag-index l.tags))
