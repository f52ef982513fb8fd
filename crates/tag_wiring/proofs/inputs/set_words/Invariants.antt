use Rattle.std.proofs.Common.{◌≡◌, length, drop}
use Rattle.tag_wiring.specs.Inner.Steps.{all_set}
use Rattle.tag_wiring.proofs.inputs.set_words.Given as goal

abbrev pub invariant-loop-place : goal.invariant-loop-place
invariant-loop-place l =
    (all_set (drop l.place l.addresses) (drop l.place l.values) l.words.list ≡ all_set l.addresses l.values l.fn.words.list)
    × (length l.words.list ≡ length l.fn.words.list)
    × (l.words.spare ≡ l.fn.words.spare)
