use Rattle.std.proofs.Common.{◌∙◌}
use Rattle.st_types.proofs.Positions.{got_at}
use Rattle.tag_layout.proofs.Naming.{declared_there, declared_nowhere}
use Rattle.tag_layout.proofs.layout.Layout.declared.Goals as goal

pub returns-in-Some : goal.returns-in-Some
returns-in-Some c =
    declared_there c.args.self.now c.args.name.now c.in-Some.place c.deref.result.now c.copied.result
    (c.copied.ensures ∙ got_at c.get.result c.deref.result.now c.in-Some.place c.get.ensures.lookup.3)
    (c.deref.ensures.value ∙ c.self.view_is)
    c.in-Some.ensures

pub returns-in-None : goal.returns-in-None
returns-in-None c = declared_nowhere c.args.self.now c.args.name.now c.in-None.ensures
