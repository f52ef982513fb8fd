use Rattle.std.proofs.Common.{◌≡◌}
use Rattle.tribus.proofs.tests.hear_all.Given as goal

-- it stays where it stood
abbrev pub invariant-loop-number : goal.invariant-loop-number
invariant-loop-number g l = l.heard.link ≡ l.fn.heard.link
