use Rattle.std.proofs.Common.{◌≡◌}
use Rattle.scan_machine.specs.Rules.{depth_at}
use Rattle.scan_machine.proofs.depths.depth_at.Given as goal

abbrev pub invariant-loop-at : goal.invariant-loop-at
invariant-loop-at l = l.depth ≡ depth_at l.code l.at
