use Rattle.std.proofs.Common.{◌≡◌, drop}
use Rattle.std.specs.List.{find}
use Rattle.std.specs.Str.{bytes_eq}
use Rattle.download_change.specs.Renames.{Rename}
use Rattle.download_change.proofs.heirs.new_name.Given as goal

abbrev pub invariant-loop-rename : goal.invariant-loop-rename
invariant-loop-rename l = find (λ (r : Rename). bytes_eq l.name r.0) (drop l.rename-index l.renames) ≡ find (λ (r : Rename). bytes_eq l.name r.0) l.renames
