use Rattle.leg_workers.proofs.OneNeed.{served_kept}
use Rattle.leg_workers.proofs.working.serve_pair.Goals as goal

pub returns-clause-kept : goal.returns-clause-kept
returns-clause-kept g c =
    served_kept g.E.Engine.meaning c.args.pair.now (c.serve.new.leg, c.serve.new.post) c.serve.ensures.served
