use Rattle.plant_script.proofs.Facts.{line_there, no_line}
use Rattle.plant_script.proofs.refused.take_line.Goals as goal

pub returns-in-Some : goal.returns-in-Some
returns-in-Some c = line_there c.args.numbers.now c.args.at c.in-Some.number.now c.in-Some.ensures.lookup.3.0 (c.in-Some.ensures.lookup.3.1 c.in-Some.number.now)

pub returns-in-None : goal.returns-in-None
returns-in-None c = no_line c.args.numbers.now c.args.at c.in-None.ensures.lookup.3
