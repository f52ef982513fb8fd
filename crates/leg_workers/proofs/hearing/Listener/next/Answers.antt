use Rattle.leg_workers.proofs.Heard.{hears_note, hears_over}
use Rattle.leg_workers.proofs.hearing.Listener.next.Goals as goal

pub returns-in-Scan : goal.returns-in-Scan
returns-in-Scan g c = hears_note c.args.self.now c.in-Scan.note c.hear.new.self c.if-self.false c.in-Scan.ensures

pub returns-in-Over : goal.returns-in-Over
returns-in-Over g c = hears_over c.args.self.now c.hear.new.self c.if-self.false c.in-Over.ensures
