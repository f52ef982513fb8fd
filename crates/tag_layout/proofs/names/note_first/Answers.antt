use Rattle.std.proofs.Common.{sym, ◌∙◌}
use Rattle.indexmap.proofs.CallerLemmas.{insert_entry-new}
use Rattle.tri_base.specs.Inner.NameFields.{same_name}
use Rattle.st_types.proofs.Placed.{no_place, first_noted}
use Rattle.tag_layout.proofs.names.note_first.Goals as goal

pub returns-clause-noted : goal.returns-clause-noted
returns-clause-noted c =
    let none = no_place _ (sym c.contains_key.ensures ∙ c.if-contains_key.false) in
    c.in_ok-insert.ensures.entries
    ∙ (insert_entry-new same_name c.args.places.now c.args.name c.args.place none ∙ first_noted c.args.places.now.entries c.args.name c.args.place none)
