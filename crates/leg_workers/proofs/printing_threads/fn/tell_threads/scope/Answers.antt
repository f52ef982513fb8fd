use Rattle.std.proofs.Common.{rules}
use Rattle.leg_workers.specs.Inner.Telling.{IsAtEnd, IsBack, TellsOn}
use Rattle.leg_workers.proofs.Handed.{handed_on}
use Rattle.leg_workers.proofs.Here.{all_with}
use Rattle.leg_workers.proofs.Told.{back_ended}
use Rattle.leg_workers.proofs.printing_threads.fn.tell_threads.scope.Goals as goal

pub join_teller-a-requires : goal.join_teller-a-requires
join_teller-a-requires g c =
    let m = g.E.Engine.meaning in
    let e = c.play_rounds-outs.ensures in
    let here = all_with (TellsOn m) IsAtEnd _ _ e.here e.done in
    let was = c.captures.a in
    (was, handed_on (IsBack m) _ (back_ended m) was _ _ _ c.hand_teller-a.ensures here.a)

pub join_teller-b-requires : goal.join_teller-b-requires
join_teller-b-requires g c =
    let m = g.E.Engine.meaning in
    let e = c.play_rounds-outs.ensures in
    let here = all_with (TellsOn m) IsAtEnd _ _ e.here e.done in
    let was = c.captures.b in
    (was, handed_on (IsBack m) _ (back_ended m) was _ _ _ c.hand_teller-b.ensures here.b)

pub join_teller-c-requires : goal.join_teller-c-requires
join_teller-c-requires g c =
    let m = g.E.Engine.meaning in
    let e = c.play_rounds-outs.ensures in
    let here = all_with (TellsOn m) IsAtEnd _ _ e.here e.done in
    let was = c.captures.c in
    (was, handed_on (IsBack m) _ (back_ended m) was _ _ _ c.hand_teller-c.ensures here.c)

pub returns : goal.returns
returns g c =
    let m = g.E.Engine.meaning in
    let e = c.play_rounds-outs.ensures in
    let here = all_with (TellsOn m) IsAtEnd _ _ e.here e.done in
    let on = handed_on (IsBack m) _ (back_ended m) in
    record {
      tellers = record {
        a = c.join_teller-a.ensures c.captures.a (on c.captures.a _ _ _ c.hand_teller-a.ensures here.a);
        b = c.join_teller-b.ensures c.captures.b (on c.captures.b _ _ _ c.hand_teller-b.ensures here.b);
        c = c.join_teller-c.ensures c.captures.c (on c.captures.c _ _ _ c.hand_teller-c.ensures here.c);
      };
      same = search rules;
      printed = e.printed;
    }
