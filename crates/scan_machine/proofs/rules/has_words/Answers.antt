use Rattle.std.proofs.Common.{refl}
use Rattle.scan_machine.proofs.Reaches.{words_there, no_words_there}
use Rattle.scan_machine.proofs.rules.has_words.Goals as goal

pub returns-in-Some : goal.returns-in-Some
returns-in-Some c =
    words_there c.are_there.result c.args.words c.in-Some.first c.in-Some.more c.args.instr.now c.in-Some.ensures c.are_there.ensures

pub returns-in-None : goal.returns-in-None
returns-in-None c = ((λ t. no_words_there c.args.words c.args.instr.now c.in-None.ensures), (λ h. refl))
