use Rattle.std.proofs.Common.{◌≡◌, map, take}
use Rattle.tag_wiring.specs.Inner.Steps.{told_at}
use Rattle.tag_wiring.proofs.inputs.note_words.Given as goal

abbrev pub invariant-loop-address : goal.invariant-loop-address
invariant-loop-address l =
    (l.touched.pairs ≡ map (told_at l.words) (take l.address-index l.addresses)) × (l.touched.size ≡ l.fn.touched.size)
