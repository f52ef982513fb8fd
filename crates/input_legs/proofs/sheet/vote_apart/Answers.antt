use Rattle.input_legs.proofs.Votes.{added_in}
use Rattle.input_legs.proofs.sheet.vote_apart.Goals as goal

pub returns-clause-within : goal.returns-clause-within
returns-clause-within c =
    added_in c.args.chassis.now _ (record { a = c.args.a.now; b = c.args.b.now; c = c.args.c.now }) _ _ _
    c.points.ensures.chassis.fit c.points.ensures.holds_zero c.points.ensures.value c.read_three-shown.ensures.shown
    c.clear.ensures.list c.add_votes.ensures.list
