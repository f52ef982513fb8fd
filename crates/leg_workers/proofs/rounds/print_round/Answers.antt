use Rattle.std.proofs.Common.{refl}
use Rattle.leg_workers.proofs.Heard.{page_keeps, round_printed}
use Rattle.leg_workers.proofs.rounds.print_round.Goals as goal

pub returns-clause-limit : goal.returns-clause-limit
returns-clause-limit g c = page_keeps g.P.Printer.After c.args.page.now _ _ _ _ _ c.print.ensures

pub returns-clause-printed : goal.returns-clause-printed
returns-clause-printed g c outs first h =
    round_printed g.P.Printer.After outs c.args.ears.now c.hear_round-round.new.ears c.args.page.now _ first
    c.args.printer.now _ _ _ _ c.hear_round-round.ensures h _ refl c.print.ensures
