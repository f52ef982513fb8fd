use Rattle.std.proofs.Common.{◌≡◌, ◌+◌, ◌++◌, map, take}
use Rattle.tag_wiring.specs.Inner.Wires.{value_in}
use Rattle.tag_wiring.proofs.outputs.take_words.Given as goal

abbrev pub invariant-loop-wire : goal.invariant-loop-wire
invariant-loop-wire l =
    (l.outputs.list ≡ l.fn.outputs.list ++ map (value_in l.words) (take l.wire-index l.wires))
    × (l.outputs.spare + l.wire-index ≡ l.fn.outputs.spare)
