use Rattle.leg_workers.proofs.Printed.{ends_of, over_lines, places_of}
use Rattle.leg_workers.proofs.printing.print_over.Goals as goal

pub settle-requires-clause-places : goal.settle-requires-clause-places
settle-requires-clause-places g c =
    let t = c.tell_threads-tellers in
    places_of g.P.Printer.After g.E.Engine.meaning c.args.lines c.requires c.args.legs c.tellers_at-tellers.result t.result.0
    c.tellers_at-tellers.ensures t.ensures.tellers t.result.1 c.args.printer.now t.new.printer c.scans-scans.result
    c.scans-scans.ensures t.ensures.printed

pub settle-requires-clause-links : goal.settle-requires-clause-links
settle-requires-clause-links g c =
    let t = c.tell_threads-tellers in
    ends_of g.P.Printer.After g.E.Engine.meaning c.args.lines c.requires c.args.legs c.tellers_at-tellers.result t.result.0
    c.tellers_at-tellers.ensures t.ensures.tellers t.result.1 c.args.printer.now t.new.printer c.scans-scans.result
    c.scans-scans.ensures t.ensures.printed

pub returns : goal.returns
returns g c =
    let t = c.tell_threads-tellers in
    let s = c.settle.ensures in
    over_lines g.P.Printer.After g.E.Engine.meaning c.args.lines c.requires c.args.legs c.tellers_at-tellers.result t.result.0
    c.tellers_at-tellers.ensures t.ensures.tellers t.result.1 c.args.printer.now t.new.printer c.scans-scans.result
    c.scans-scans.ensures t.ensures.printed c.settle.result.0 c.settle.result.1 s.legs s.lists s.whole
    s.fronts
