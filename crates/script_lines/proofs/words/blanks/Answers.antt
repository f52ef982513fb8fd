use Rattle.script_lines.proofs.Cuts.{nowhere, is_mark}
use Rattle.script_lines.proofs.words.blanks.Goals as goal

pub returns-in-None : goal.returns-in-None
returns-in-None c = nowhere is_mark c.args.line.now c.in-None.ensures
