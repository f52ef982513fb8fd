use Rattle.std.proofs.Common.{◌≡◌, ◌≤◌, arith, subst, sym}
use Rattle.scan_machine.specs.declared.instructions.Instr.TheVariants.{Limit}
use Rattle.scan_machine.specs.Rules.{depth_at}
use Rattle.scan_machine.proofs.Waiting.{depth_bound}
use Rattle.scan_machine.proofs.depths.depth_at.Goals as goal

pub depth_after-depth-requires : goal.depth_after-depth-requires
depth_after-depth-requires c =
    let e : c.loop-at.depth ≡ depth_at c.args.code.now c.loop-at.at = c.loop-at.invariant in
    subst (λ n. n ≤ 1024) (sym e) (depth_bound c.args.code.now c.args.place c.loop-at.at Limit c.requires.depths c.requires.place (omega arith))
