use Rattle.std.proofs.Common.{subst, sym}
use Rattle.re_education.specs.Inner.Shown.{ArePairs, pairs_in}
use Rattle.re_education.proofs.Applied.{pairs_from_rise}
use Rattle.re_education.proofs.teaching.teach.Goals as goal

pub write_pairs-requires-clause-pairs : goal.write_pairs-requires-clause-pairs
write_pairs-requires-clause-pairs c =
    let v = c.args.shown.now in
    subst (ArePairs v.word_length) (sym c.requires.sound.pairs) (pairs_from_rise 0 v.word_length (pairs_in v.pairs.now) c.requires.sound.canonical.pairs)
