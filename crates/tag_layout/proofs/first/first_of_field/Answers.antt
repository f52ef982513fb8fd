use Rattle.std.proofs.Common.{FitsSigned, w64, rules, sym, ap, ◌∙◌}
use Rattle.std.specs.Option.{option_map}
use Rattle.std.proofs.lemmas.Int.{to_z-of_z}
use Rattle.function_blocks.specs.Fields.{shown}
use Rattle.tag_layout.proofs.FirstValues.{first_or_0, first_of}
use Rattle.tag_layout.proofs.first.first_of_field.Goals as goal

pub returns-in-Some : goal.returns-in-Some
returns-in-Some c =
    let fits : FitsSigned w64 c.in-Some.field.first = search rules in
    to_z-of_z w64 c.in-Some.field.first fits
    ∙ (sym (ap (λ r. first_or_0 (option_map shown r)) c.in-Some.is) ∙ first_of c.args.block c.args.place c.field_at.result c.field_at.ensures)

pub returns-in-None : goal.returns-in-None
returns-in-None c = sym (ap (λ r. first_or_0 (option_map shown r)) c.in-None.is) ∙ first_of c.args.block c.args.place c.field_at.result c.field_at.ensures
