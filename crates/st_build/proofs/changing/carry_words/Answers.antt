use Rattle.std.proofs.Common.{length, ap, ◌∙◌}
use Rattle.tag_layout.specs.Layout.{first_words, first_environment}
use Rattle.tag_layout.proofs.Standing.{counts}
use Rattle.tag_layout.proofs.FirstValues.{first_laid}
use Rattle.st_build.proofs.changing.carry_words.Goals as goal

pub carry-requires-clause-first : goal.carry-requires-clause-first
carry-requires-clause-first c =
    let new = c.args.new.now in
    ap length c.in_ok-first.ensures ∙ counts new (first_environment new) (first_words new) (first_laid new)
