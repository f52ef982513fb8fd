use Rattle.std.proofs.Common.{◌≡◌, ◌++◌}
use Rattle.script_maker.specs.Inner.Pieces.{repeated}
use Rattle.script_maker.proofs.program.push_letters.Given as goal

abbrev pub invariant-loop-done : goal.invariant-loop-done
invariant-loop-done l = l.text.list ≡ l.fn.text.list ++ repeated l.letter l.done
