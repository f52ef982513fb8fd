use Rattle.tribus.proofs.Steps.{takes_left, learns}
use Rattle.tribus.proofs.link.take_left.Goals as goal

pub pop_as-requires-clause-rule : goal.pop_as-requires-clause-rule
pop_as-requires-clause-rule g c =
    let may = c.requires.joined in
    (takes_left _ _ may.0 may.1, learns _ _ may.0 may.1)
