use Rattle.std.proofs.Common.{◌≡◌, drop}
use Rattle.download_change.specs.Renames.{is_new_name}
use Rattle.download_change.proofs.heirs.is_new_name.Given as goal

abbrev pub invariant-loop-rename : goal.invariant-loop-rename
invariant-loop-rename l = is_new_name (drop l.rename-index l.renames) l.name ≡ is_new_name l.renames l.name
