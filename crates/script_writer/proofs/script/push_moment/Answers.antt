use Rattle.std.proofs.Common.{rules, arith}
use Rattle.std.proofs.lemmas.Grind.{common_steps}
use Rattle.script_writer.specs.Inner.Adding.{moment_text}
use Rattle.script_writer.proofs.script.push_moment.Goals as goal

pub returns : goal.returns
unfolding moment_text
returns c = first_of (search rules, grind (arith, common_steps))
