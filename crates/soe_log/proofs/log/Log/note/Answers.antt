use Rattle.std.proofs.Common.{◌≡◌, arith, sym}
use Rattle.std.proofs.lemmas.Grind.{common_steps}
use Rattle.soe_log.proofs.Logs.{unchanged}
use Rattle.soe_log.proofs.log.Log.note.Goals as goal

pub returns-else-event-older-clause-log : goal.returns-else-event-older-clause-log
returns-else-event-older-clause-log c =
    let same : c.args.event.value ≡ c.args.older = grind (arith, common_steps) in
    sym (unchanged c.args.self.now c.args.older c.args.event same c.requires.few)
