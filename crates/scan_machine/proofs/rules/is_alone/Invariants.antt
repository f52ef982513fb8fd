use Rattle.scan_machine.specs.Inner.Loops.{IsAlone}
use Rattle.scan_machine.proofs.rules.is_alone.Given as goal

abbrev pub invariant-loop-at : goal.invariant-loop-at
invariant-loop-at l = IsAlone l.code l.address l.back l.at
