use Rattle.std.proofs.Common.{ap, ◌∙◌, subst, ◌≤◌, List}
use Rattle.tri_base.specs.Limits.{word_limit}
use Rattle.st_tree.specs.declared.tag.Tag.{Tag}
use Rattle.st_types.proofs.Positions.{got_at}
use Rattle.tag_layout.specs.Layout.{total_words, placed_tags}
use Rattle.tag_layout.proofs.Naming.{named_there, named_nowhere}
use Rattle.tag_layout.proofs.Lying.{named_within}
use Rattle.tag_layout.proofs.layout.Layout.find.Goals as goal

pub returns-in-Some-clause-value : goal.returns-in-Some-clause-value
returns-in-Some-clause-value c =
    named_there c.args.self.now c.args.name.now c.in-Some.place c.deref.result.now c.copied.result
    (c.copied.ensures ∙ got_at c.get.result c.deref.result.now c.in-Some.place c.get.ensures.lookup.3)
    (c.deref.ensures.value ∙ (c.self.invariant.placed ∙ ap placed_tags c.self.view_is))
    c.in-Some.ensures

pub returns-in-Some-clause-within : goal.returns-in-Some-clause-within
returns-in-Some-clause-within c =
    named_within c.args.self.now c.args.name.now c.copied.result
    (subst (λ (ts : List Tag). total_words ts ≤ word_limit) c.self.view_is c.self.invariant.few)
    (named_there c.args.self.now c.args.name.now c.in-Some.place c.deref.result.now c.copied.result
    (c.copied.ensures ∙ got_at c.get.result c.deref.result.now c.in-Some.place c.get.ensures.lookup.3)
    (c.deref.ensures.value ∙ (c.self.invariant.placed ∙ ap placed_tags c.self.view_is))
    c.in-Some.ensures)

pub returns-in-None-clause-value : goal.returns-in-None-clause-value
returns-in-None-clause-value c = named_nowhere c.args.self.now c.args.name.now c.in-None.ensures
