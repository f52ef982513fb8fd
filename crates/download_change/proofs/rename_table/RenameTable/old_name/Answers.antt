use Rattle.std.proofs.Common.{List, ap, ◌∙◌}
use Rattle.std.specs.List.{find}
use Rattle.std.specs.Option.{option_map}
use Rattle.std.specs.Str.{bytes_eq}
use Rattle.download_change.specs.Renames.{Rename}
use Rattle.download_change.proofs.rename_table.RenameTable.old_name.Goals as goal

pub returns : goal.returns
returns c =
    c.copied.ensures
    ∙ (c.get.ensures.value
    ∙ (c.self.invariant.by_new c.args.name.now
    ∙ ap (λ (rs : List Rename). option_map (λ (r : Rename). r.0) (find (λ (r : Rename). bytes_eq c.args.name.now r.1) rs)) c.self.view_is))
