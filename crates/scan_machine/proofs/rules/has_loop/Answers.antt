use Rattle.std.proofs.Common.{refl}
use Rattle.scan_machine.proofs.Alone.{loop_alone, other_loop}
use Rattle.scan_machine.proofs.rules.has_loop.Goals as goal

pub returns-in-Next : goal.returns-in-Next
returns-in-Next c =
    let n = c.in-Next in
    loop_alone c.args.code.now c.args.place n.address n.kind n.step n.last n.back c.is_alone.result _ c.requires.place n.is c.requires.targets c.is_alone.ensures

pub returns-in_default : goal.returns-in_default
returns-in_default c = ((λ t. other_loop c.args.code.now c.args.place _ c.requires.place (λ a k s l b e. c.in_default.not-Next a k s l b e)), (λ h. refl))
