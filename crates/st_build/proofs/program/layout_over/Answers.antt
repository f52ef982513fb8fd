use Rattle.std.proofs.Common.{◌∙◌}
use Rattle.st_build.proofs.Keeping.{tags_known}
use Rattle.st_build.proofs.program.layout_over.Goals as goal

pub returns : goal.returns
returns c = c.layout.ensures.value ∙ tags_known c.args.chassis.now c.args.program.now c.layout.ensures.kept c.requires
