use Rattle.std.proofs.Common.{arith}
use Rattle.script_lines.specs.Lines.{lines_of-le}
use Rattle.tricon.proofs.players.MatrixPlayerPlayer.outcome.Goals as goal

pub read_matrix-requires : goal.read_matrix-requires
read_matrix-requires c = omega (arith, lines_of-le c.args.text.now.list, c.requires)
