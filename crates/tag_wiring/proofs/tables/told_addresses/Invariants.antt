use Rattle.std.proofs.Common.{◌≡◌, map, take}
use Rattle.tag_layout.specs.declared.placed.PlacedTag.{PlacedTag}
use Rattle.tag_wiring.specs.Inner.Steps.{told_among}
use Rattle.tag_wiring.proofs.tables.told_addresses.Given as goal

abbrev pub invariant-loop-tag : goal.invariant-loop-tag
invariant-loop-tag l = l.told.items ≡ told_among l.chassis l.layout (map (λ (p : PlacedTag). p.name) (take l.tag-index l.tag-items))
