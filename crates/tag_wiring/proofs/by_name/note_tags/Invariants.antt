use Rattle.std.proofs.Common.{◌≡◌, [], map, take}
use Rattle.std.specs.Prelude.{fold}
use Rattle.tag_layout.specs.declared.placed.PlacedTag.{PlacedTag}
use Rattle.tag_wiring.specs.Inner.Steps.{told_among, noted_at}
use Rattle.tag_wiring.proofs.by_name.note_tags.Given as goal

abbrev pub invariant-loop-tag : goal.invariant-loop-tag
invariant-loop-tag l =
    (l.touched.pairs ≡ fold (noted_at l.words) [] (told_among l.chassis l.layout (map (λ (p : PlacedTag). p.name) (take l.tag-index l.tag-items))))
    × (l.touched.size ≡ l.fn.touched.size)
