use Rattle.std.proofs.Common.{rules}
use Rattle.leg_workers.proofs.start.hand_out.Goals as goal

pub returns-in-Err : goal.returns-in-Err
returns-in-Err g c = c.returned.ensures c.args.pair (search rules)
