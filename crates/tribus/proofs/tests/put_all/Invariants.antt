use Rattle.std.proofs.Common.{◌≡◌}
use Rattle.tribus.proofs.tests.put_all.Given as goal

-- it stays where it stood
abbrev pub invariant-loop-number : goal.invariant-loop-number
invariant-loop-number g l = l.post.place ≡ l.fn.post.place
