use Rattle.std.proofs.Common.{arith}
use Rattle.script_lines.specs.Lines.{lines_of-le}
use Rattle.worker_tests.proofs.tests.read_short.Goals as goal

pub read_script-requires : goal.read_script-requires
read_script-requires c = grind (arith, lines_of-le c.args.text.now.list)
