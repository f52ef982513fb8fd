use Rattle.std.proofs.Common.{take, ap, sym, ◌∙◌}
use Rattle.std.specs.Str.{bytes_eq}
use Rattle.st_tree.specs.declared.tag.Tag.{Tag}
use Rattle.st_types.proofs.Positions.{any_before, any_mapped, lies_before}
use Rattle.st_types.proofs.tags.DeclaredTags.is_again.Goals as goal

pub returns-in-Some : goal.returns-in-Some
returns-in-Some c =
    let name = c.args.name.now in
    ap (λ o. lies_before o c.args.at) c.in-Some.ensures
    ∙ sym (any_mapped (λ (t : Tag). t.name) (bytes_eq name) (take c.args.at c.args.self.now) ∙ any_before (λ (t : Tag). bytes_eq name t.name) c.args.self.now c.args.at)

pub returns-in-None : goal.returns-in-None
returns-in-None c =
    let name = c.args.name.now in
    ap (λ o. lies_before o c.args.at) c.in-None.ensures
    ∙ sym (any_mapped (λ (t : Tag). t.name) (bytes_eq name) (take c.args.at c.args.self.now) ∙ any_before (λ (t : Tag). bytes_eq name t.name) c.args.self.now c.args.at)
