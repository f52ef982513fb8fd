use Rattle.std.proofs.Common.{◌≡◌, take}
use Rattle.std.specs.List.{flat_map}
use Rattle.tag_layout.specs.declared.placed.PlacedTag.{PlacedTag}
use Rattle.download_change.specs.Kept.{carried_part, kept_for}
use Rattle.download_change.proofs.carrying.carry.Given as goal

abbrev pub invariant-loop-tag : goal.invariant-loop-tag
invariant-loop-tag l =
    l.carried.list ≡ flat_map (λ (t : PlacedTag). carried_part l.fn.words.list l.fn.first.list (kept_for l.fn.old l.fn.renames t) t) (take l.tag-index l.tag-items)
