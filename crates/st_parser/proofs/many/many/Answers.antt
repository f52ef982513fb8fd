use Rattle.std.proofs.Common.{rules, arith, sym, ◌∙◌}
use Rattle.std.proofs.lemmas.Grind.{common_steps}
use Rattle.st_parser.proofs.Turns.{stops_here, goes, no_turn_left}
use Rattle.st_parser.proofs.many.many.Goals as goal

pub returns-then-not-comes : goal.returns-then-not-comes
returns-then-not-comes g c test p tells parses =
    stops_here test p _ _ c.loop-turn._turn c.loop-turn.found c.loop-turn.tokens (c.loop-turn.invariant test p tells parses) c.loop-turn-test.true
    (sym (tells _ _ c.comes.ensures) ∙ c.if-not-comes.true)

pub returns-in_err-next : goal.returns-in_err-next
returns-in_err-next g c test p tells parses =
    let e = goes test p _ _ c.loop-turn._turn c.loop-turn.found c.loop-turn.tokens (c.loop-turn.invariant test p tells parses) c.loop-turn-test.true
    (sym (tells _ _ c.comes.ensures) ∙ c.if-not-comes.false) in
    let read = parses _ _ _ c.part.ensures in
    first_of (search rules, grind (arith, common_steps))

pub loop-turn-preserved : goal.loop-turn-preserved
loop-turn-preserved g c test p tells parses =
    let e = goes test p _ _ c.loop-turn._turn c.loop-turn.found c.loop-turn.tokens (c.loop-turn.invariant test p tells parses) c.loop-turn-test.true
    (sym (tells _ _ c.comes.ensures) ∙ c.if-not-comes.false) in
    let read = parses _ _ _ c.part.ensures in
    first_of (search rules, grind (arith, common_steps))

pub returns : goal.returns
returns g c test p tells parses =
    let e = no_turn_left test p _ _ c.loop-turn._turn c.loop-turn.found c.loop-turn.tokens (c.loop-turn.invariant test p tells parses) c.loop-turn-test.false in
    first_of (search rules, grind (arith, common_steps))
