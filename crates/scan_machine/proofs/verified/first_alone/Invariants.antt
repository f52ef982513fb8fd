use Rattle.std.proofs.Common.{◌≡◌}
use Rattle.scan_machine.specs.Rules.{depth_at}
use Rattle.scan_machine.specs.Inner.FirstFault.{AreSoundBelow}
use Rattle.scan_machine.proofs.verified.first_alone.Given as goal

abbrev pub invariant-loop-index : goal.invariant-loop-index
invariant-loop-index l = record {
  sound : AreSoundBelow l.code l.words l.index;
  depth : l.depth ≡ depth_at l.code l.index;
}
