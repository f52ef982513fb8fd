use Rattle.std.proofs.Common.{◌≡◌, ◌++◌, flat_map, take}
use Rattle.script_writer.specs.Canonical.{leg_word}
use Rattle.script_writer.proofs.word.push_letters.Given as goal

abbrev pub invariant-loop-leg : goal.invariant-loop-leg
invariant-loop-leg l = l.text.list ≡ l.fn.text.list ++ flat_map leg_word (take l.leg-index l.legs)
