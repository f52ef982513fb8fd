use Rattle.script_maker.proofs.Scripts.{made}
use Rattle.script_maker.proofs.script.make_script.Goals as goal

pub of-requires : goal.of-requires
of-requires c = made c.args.number c.args.scans _ _ _ _ c.requires c.in_ok-chassis.ensures c.in_ok-program.ensures c.new-schedule.ensures c.in_ok-moments.ensures
