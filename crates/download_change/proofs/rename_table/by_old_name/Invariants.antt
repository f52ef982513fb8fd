use Rattle.std.proofs.Common.{◌≡◌, ℕ, List, drop}
use Rattle.std.specs.List.{find}
use Rattle.std.specs.Map.{lookup}
use Rattle.std.specs.Option.{option_map}
use Rattle.std.specs.Str.{bytes_eq}
use Rattle.tri_base.specs.Inner.NameFields.{same_name}
use Rattle.download_change.specs.Renames.{Rename}
use Rattle.download_change.proofs.rename_table.by_old_name.Given as goal

abbrev pub invariant-loop-at : goal.invariant-loop-at
invariant-loop-at l =
    (name : List ℕ) → lookup (same_name name) l.names.entries ≡ option_map (λ (r : Rename). r.1) (find (λ (r : Rename). bytes_eq name r.0) (drop l.at l.renames))
