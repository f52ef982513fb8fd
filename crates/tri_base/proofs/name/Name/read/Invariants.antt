use Rattle.std.proofs.Common.{◌≡◌}
use Rattle.tri_base.proofs.NameBytes.{front}
use Rattle.tri_base.proofs.name.Name.read.Given as goal

abbrev pub invariant-loop-at : goal.invariant-loop-at
invariant-loop-at l = l.bytes ≡ front l.text l.at
