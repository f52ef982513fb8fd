use Rattle.std.proofs.Common.{◌++◌, List, ℕ, ap, codes, refl}
use Rattle.tricon.specs.Statuses.{counted_text}
use Rattle.tricon.specs.declared.status.Status.TheVariants.{DoneNotCalm, ScriptTooLong, Stuck}
use Rattle.tricon.proofs.Joined.{told}
use Rattle.tricon.proofs.status.status_line.Goals as goal

pub returns-in-DoneNotCalm-clause-line : goal.returns-in-DoneNotCalm-clause-line
returns-in-DoneNotCalm-clause-line c =
    told c.push_counted.result c.args.status.now (DoneNotCalm c.in-DoneNotCalm.scan) c.args.text.now.list
    c.push_counted.new.text.list (counted_text (codes "not calm at scan ") c.from.result) c.in-DoneNotCalm.is
    c.push_counted.ensures.line (ap (λ (n : ℕ). counted_text (codes "not calm at scan ") n) c.from.ensures)

pub returns-in-ScriptTooLong-clause-line : goal.returns-in-ScriptTooLong-clause-line
returns-in-ScriptTooLong-clause-line c =
    told c.push_bytes-in-ScriptTooLong.result c.args.status.now ScriptTooLong c.args.text.now.list
    c.push_bytes-in-ScriptTooLong.new.text.list (codes "script too long\n") c.in-ScriptTooLong.is
    c.push_bytes-in-ScriptTooLong.ensures.list refl

pub returns-in-Stuck-clause-line : goal.returns-in-Stuck-clause-line
returns-in-Stuck-clause-line c =
    told c.push_counted-in-Stuck.result c.args.status.now (Stuck c.in-Stuck.index) c.args.text.now.list
    c.push_counted-in-Stuck.new.text.list (counted_text (codes "stuck at step ") c.in-Stuck.index) c.in-Stuck.is
    c.push_counted-in-Stuck.ensures.line refl
