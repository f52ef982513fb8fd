use Rattle.std.proofs.Common.{rules, arith}
use Rattle.std.proofs.lemmas.Grind.{common_steps}
use Rattle.input_legs.specs.Marks.{no_row}
use Rattle.input_legs.specs.Inner.Shown.{three_shown}
use Rattle.input_legs.proofs.Rows.{counted_more}
use Rattle.input_legs.proofs.discrepancy.count_at.Goals as goal

pub returns-clause-rows : goal.returns-clause-rows
returns-clause-rows c = λ more.
    counted_more c.args.rows.now c.args.input _ no_row c.args.point.now more (three_shown c.args.shown.now) c.requires.input
    (first_of (search rules, grind (arith, common_steps)))
