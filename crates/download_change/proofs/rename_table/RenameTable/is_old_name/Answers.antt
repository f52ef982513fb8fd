use Rattle.std.proofs.Common.{ap, ◌∙◌}
use Rattle.std.specs.Option.{is_some}
use Rattle.std.specs.Str.{bytes_eq}
use Rattle.download_change.specs.Renames.{Rename, is_old_name}
use Rattle.download_change.proofs.Tabled.{there}
use Rattle.download_change.proofs.rename_table.RenameTable.is_old_name.Goals as goal

pub returns : goal.returns
returns c =
    c.contains_key.ensures
    ∙ (ap is_some (c.self.invariant.by_old c.args.name.now)
    ∙ (there (λ (r : Rename). r.1) (λ (r : Rename). bytes_eq c.args.name.now r.0) c.self.inside.renames.now
    ∙ ap (λ rs. is_old_name rs c.args.name.now) c.self.view_is))
