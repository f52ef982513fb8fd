use Rattle.std.proofs.Common.{rules, arith}
use Rattle.std.proofs.lemmas.Grind.{common_steps}
use Rattle.input_legs.specs.Marks.{no_row}
use Rattle.input_legs.proofs.Common.{agreed_more}
use Rattle.input_legs.proofs.discrepancy.agree_on.Goals as goal

pub loop-place-preserved : goal.loop-place-preserved
loop-place-preserved c = record {
  rows = agreed_more c.loop-place.place c.loop-place.rows c.args.rows.now _ no_row c.loop-place.invariant.rows
      (first_of (search rules, grind (arith, common_steps))) (first_of (search rules, grind (arith, common_steps)));
  low = first_of (search rules, grind (arith, common_steps));
}
