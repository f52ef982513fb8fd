use Rattle.std.proofs.Common.{◌≡◌, drop}
use Rattle.download_change.specs.Renames.{unknown_name_of}
use Rattle.download_change.proofs.fault.unknown_name.Given as goal

abbrev pub invariant-loop-rename : goal.invariant-loop-rename
invariant-loop-rename l = unknown_name_of l.old l.new (drop l.rename-index l.renames) ≡ unknown_name_of l.old l.new l.renames
