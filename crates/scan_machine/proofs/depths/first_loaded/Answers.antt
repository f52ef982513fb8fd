use Rattle.std.proofs.Common.{arith}
use Rattle.scan_machine.proofs.Waiting.{names_more, loaded_more, no_target}
use Rattle.scan_machine.proofs.depths.first_loaded.Goals as goal

pub loop-at-preserved : goal.loop-at-preserved
loop-at-preserved c =
    let code = c.args.code.now in let first = c.loop-at.first in let sooner = c.sooner_loaded-first in
    let inv = c.loop-at.invariant in
    record {
      within = omega arith;
      loaded = loaded_more code c.args.bound first sooner.result sooner.ensures.within inv.loaded sooner.ensures.loaded;
      before = names_more code c.loop-at.at first sooner.result sooner.ensures.within inv.before sooner.ensures.before;
    }

pub returns-clause-before : goal.returns-clause-before
returns-clause-before c = no_target c.args.code.now c.loop-at.at c.loop-at.first (omega arith) c.loop-at.invariant.before
