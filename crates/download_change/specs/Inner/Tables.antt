-- Nobody has to believe what stands here: it serves private fields alone.
-- How renames are kept: the list of them, and two tables of the first rename with each old and with each new name.
use Rattle.std.specs.Prelude.{◌≡◌, ℕ, List}
use Rattle.std.specs.List.{find}
use Rattle.std.specs.Map.{lookup}
use Rattle.std.specs.Option.{option_map}
use Rattle.std.specs.Str.{bytes_eq}
use Rattle.tri_base.specs.Inner.NameFields.{same_name}
use Rattle.download_change.specs.declared.rename_table.RenameTable.TheInside.{Inside}

-- The tables say what the list says.
pub record IsKept (s : Inside) : Type 0 where
  pub by_old : (name : List ℕ) → lookup (same_name name) s.by_old.entries
      ≡ option_map (λ r. r.1) (find (λ r. bytes_eq name r.0) s.renames.now)
  pub by_new : (name : List ℕ) → lookup (same_name name) s.by_new.entries
      ≡ option_map (λ r. r.0) (find (λ r. bytes_eq name r.1) s.renames.now)
