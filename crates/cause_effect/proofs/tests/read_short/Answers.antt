use Rattle.std.proofs.Common.{arith}
use Rattle.script_lines.specs.Lines.{lines_of-le}
use Rattle.cause_effect.proofs.tests.read_short.Goals as goal

pub read_matrix-requires : goal.read_matrix-requires
read_matrix-requires c = grind (arith, lines_of-le c.args.text.now.list)
