use Rattle.script_lines.specs.Words.{is_blank}
use Rattle.script_lines.proofs.Cuts.{nowhere}
use Rattle.script_lines.proofs.words.word_length.Goals as goal

pub returns-in-None : goal.returns-in-None
returns-in-None c = nowhere is_blank c.args.line.now c.in-None.ensures
