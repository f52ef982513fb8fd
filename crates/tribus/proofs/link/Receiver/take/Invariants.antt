use Rattle.std.proofs.Common.{◌≡◌, true, false, []}
use Rattle.std.specs.Arc.{arc_value}
use Rattle.crossbeam_queue.specs.Passes.{view, IsPassOf}
use Rattle.tribus.specs.Inner.Rules.{log}
use Rattle.tribus.proofs.link.Receiver.take.Given as goal

-- nothing was taken yet
abbrev pub invariant-loop : goal.invariant-loop
invariant-loop g l =
    record {
      same : IsPassOf (arc_value l.self-inside.line) l.self-inside.pass;
      taken : view l.self-inside.pass ≡ log false true [] l.fn.self.list [];
      link : l.self-inside.pass.table_id ≡ l.fn.self.link;
    }
