use Rattle.std.proofs.Common.{◌≡◌, true, false, []}
use Rattle.std.specs.Arc.{arc_value}
use Rattle.crossbeam_queue.specs.Passes.{view, IsPassOf}
use Rattle.tribus.specs.Inner.Rules.{log}
use Rattle.tribus.proofs.link.Sender.put.Given as goal

-- nothing was sent yet, and the packet waits
abbrev pub invariant-loop : goal.invariant-loop
invariant-loop g l =
    record {
      same : IsPassOf (arc_value l.self-inside.line) l.self-inside.pass;
      sent : view l.self-inside.pass ≡ log true false l.fn.self.list [] [];
      link : l.self-inside.pass.table_id ≡ l.fn.self.link;
      item : l.waiting ≡ l.fn.item;
    }
