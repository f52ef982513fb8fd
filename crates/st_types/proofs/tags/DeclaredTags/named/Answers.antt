use Rattle.std.proofs.Common.{◌≡◌, slice_get, ap, ◌∙◌}
use Rattle.std.specs.Str.{bytes_eq}
use Rattle.st_tree.specs.declared.tag.Tag.{Tag}
use Rattle.st_tree.specs.Tags.{tag_named}
use Rattle.st_types.proofs.Positions.{got_at, some_there, none_there}
use Rattle.st_types.proofs.tags.DeclaredTags.named.Goals as goal

pub returns-in-Some : goal.returns-in-Some
unfolding tag_named
returns-in-Some c =
    let got : c.copied.result ≡ slice_get c.deref.result.now c.in-Some.place = c.copied.ensures ∙ got_at c.get.result c.deref.result.now c.in-Some.place c.get.ensures.lookup.3 in
    got
    ∙ (ap (λ ts. slice_get ts c.in-Some.place) (c.deref.ensures.value ∙ c.self.view_is)
    ∙ some_there (λ (t : Tag). bytes_eq c.args.name.now t.name) c.args.self.now c.in-Some.place c.in-Some.ensures)

pub returns-in-None : goal.returns-in-None
unfolding tag_named
returns-in-None c = none_there (λ (t : Tag). bytes_eq c.args.name.now t.name) c.args.self.now c.in-None.ensures
