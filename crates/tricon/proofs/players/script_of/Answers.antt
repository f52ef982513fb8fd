use Rattle.std.proofs.Common.{arith}
use Rattle.script_lines.specs.Lines.{lines_of-le}
use Rattle.tricon.proofs.players.script_of.Goals as goal

pub read_script-requires : goal.read_script-requires
read_script-requires c = omega (arith, lines_of-le c.args.text.now.list, c.requires)
