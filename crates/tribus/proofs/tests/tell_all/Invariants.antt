use Rattle.std.proofs.Common.{◌≡◌}
use Rattle.tribus.proofs.tests.tell_all.Given as goal

-- it stays where it stood
abbrev pub invariant-loop-number : goal.invariant-loop-number
invariant-loop-number g l = l.told.link ≡ l.fn.told.link
