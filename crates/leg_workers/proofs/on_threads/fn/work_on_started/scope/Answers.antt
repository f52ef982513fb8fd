use Rattle.leg_workers.specs.Working.{IsKept, IsWorked}
use Rattle.leg_workers.proofs.Handed.{handed_on}
use Rattle.leg_workers.proofs.Kept.{kept_worked}
use Rattle.leg_workers.proofs.on_threads.fn.work_on_started.scope.Goals as goal

pub join_leg-a-requires : goal.join_leg-a-requires
join_leg-a-requires g c =
    let m = g.E.Engine.meaning in
    (c.captures.a, handed_on (IsKept m) (IsWorked m) (kept_worked m) c.captures.a _ _ _ c.hand_out-a.ensures c.work_those.ensures.a)

pub join_leg-b-requires : goal.join_leg-b-requires
join_leg-b-requires g c =
    let m = g.E.Engine.meaning in
    (c.captures.b, handed_on (IsKept m) (IsWorked m) (kept_worked m) c.captures.b _ _ _ c.hand_out-b.ensures c.work_those.ensures.b)

pub join_leg-c-requires : goal.join_leg-c-requires
join_leg-c-requires g c =
    let m = g.E.Engine.meaning in
    (c.captures.c, handed_on (IsKept m) (IsWorked m) (kept_worked m) c.captures.c _ _ _ c.hand_out-c.ensures c.work_those.ensures.c)

pub returns : goal.returns
returns g c =
    let m = g.E.Engine.meaning in
    let on = handed_on (IsKept m) (IsWorked m) (kept_worked m) in
    let w = c.work_those.ensures in
    record {
      a = c.join_leg-a.ensures c.captures.a (on c.captures.a _ _ _ c.hand_out-a.ensures w.a);
      b = c.join_leg-b.ensures c.captures.b (on c.captures.b _ _ _ c.hand_out-b.ensures w.b);
      c = c.join_leg-c.ensures c.captures.c (on c.captures.c _ _ _ c.hand_out-c.ensures w.c);
    }
