use Rattle.std.proofs.Common.{sym, subst, ◌∙◌}
use Rattle.st_types.proofs.Sound.{sound}
use Rattle.st_types.proofs.checker.check.Goals as goal
use Rattle.st_tree.specs.Typing.Programs.{WellTyped}

pub of-requires : goal.of-requires
of-requires c = subst (λ ps. WellTyped ps c.args.tree) (sym (c.in-Ok-from_slice.ensures.items ∙ c.points.ensures.value)) (sound c.args.chassis.now c.args.tree (sym c.in-Ok.ensures ∙ c.in_default-fault.is))
