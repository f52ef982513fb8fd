use Rattle.std.proofs.Common.{pos}
use Rattle.re_education.proofs.Applied.{pair_there}
use Rattle.re_education.proofs.teaching.write_pairs.Goals as goal

pub write_pair-requires-clause-from : goal.write_pair-requires-clause-from
write_pair-requires-clause-from c = (pair_there c.args.below c.loop-at.at c.args.pairs.now (pos 0) c.loop-at.invariant.pairs c.loop-at-test.true).from

pub write_pair-requires-clause-below : goal.write_pair-requires-clause-below
write_pair-requires-clause-below c = (pair_there c.args.below c.loop-at.at c.args.pairs.now (pos 0) c.loop-at.invariant.pairs c.loop-at-test.true).within
