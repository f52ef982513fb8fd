use Rattle.scan_machine.proofs.Reaches.{stored_to}
use Rattle.scan_machine.proofs.rules.stores_to.Goals as goal

pub returns : goal.returns
returns c = stored_to c.lies.result c.args.instr.now c.args.word c.store_reach.result c.store_reach.ensures c.lies.ensures
