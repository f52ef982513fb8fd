use Rattle.std.proofs.Common.{◌≡◌, ◌+◌, ◌++◌, length, true}
use Rattle.std.specs.Arc.{arc_value}
use mathlib.Core.List.{IsPrefix}
use Rattle.crossbeam_queue.specs.Passes.{view, IsPassOf}
use Rattle.tribus.proofs.link.Link.settle.Given as goal

-- each turn took one item out, and what is left goes on where what was taken ends
abbrev pub invariant-loop : goal.invariant-loop
invariant-loop g l =
    record {
      same : IsPassOf (arc_value l.line) l.joined;
      puts : (view l.joined).puts ≡ true;
      takes : (view l.joined).takes ≡ true;
      sent : (view l.joined).sent ≡ l.fn.sender.list;
      taken : (view l.joined).taken ≡ l.fn.receiver.list;
      front : IsPrefix ((view l.joined).taken ++ (view l.joined).left) (view l.joined).sent;
      left : length (view l.joined).left ≡ l.counter;
      number : length (view l.joined).sent ≡ length (view l.joined).taken + l.count;
    }
