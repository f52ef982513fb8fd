use Rattle.std.proofs.Common.{◌≡◌, false}
use Rattle.leg_workers.specs.Working.{AreAll, IsKept}
use Rattle.leg_workers.specs.Inner.Rows.{AreDoneBelow}
use Rattle.leg_workers.proofs.working.take_turns.Given as goal

-- each is kept; where none was served yet, those that were asked are done
abbrev pub invariant-loop-i : goal.invariant-loop-i
invariant-loop-i g l =
    record {
      kept : AreAll (IsKept g.E.Engine.meaning) l.fn.legs.items l.legs.items;
      done : l.served ≡ false → AreDoneBelow l.i l.legs.items;
    }
