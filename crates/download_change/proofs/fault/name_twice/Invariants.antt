use Rattle.std.proofs.Common.{◌≡◌, [], take, drop}
use Rattle.download_change.specs.Renames.{twice_behind}
use Rattle.download_change.proofs.fault.name_twice.Given as goal

abbrev pub invariant-loop-at : goal.invariant-loop-at
invariant-loop-at l = twice_behind (take l.at l.renames) (drop l.at l.renames) ≡ twice_behind [] l.renames
