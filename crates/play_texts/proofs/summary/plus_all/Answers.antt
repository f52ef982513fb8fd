use Rattle.std.proofs.Common.{pos, arith}
use Rattle.std.proofs.lemmas.Int.{ints, to_z-of_z}
use Rattle.std.proofs.lemmas.List.Sums.{fold_more}
use Rattle.play_texts.proofs.summary.plus_all.Goals as goal

pub loop-count-preserved : goal.loop-count-preserved
loop-count-preserved c =
    let at = c.requires.counts c.loop-count.count-index (pos 0) c.loop-count-test.true in
    record {
      all = grind (arith, ints, to_z-of_z, fold_more, at.0, at.1);
      low = omega (arith, ints, at.0, at.1);
      high = omega (arith, ints, at.0, at.1);
    }
