use Rattle.std.proofs.Common.{◌≡◌, ◌++◌, map, pos}
use Rattle.std.specs.List.{range_with_len}
use Rattle.script_maker.specs.Plants.{row_point}
use Rattle.script_maker.proofs.plant.add_row.Given as goal

abbrev pub invariant-loop-number : goal.invariant-loop-number
invariant-loop-number l = l.chassis ≡ l.fn.chassis ++ map (row_point l.kind l.letter (pos l.high) (pos l.tolerance)) (range_with_len 0 l.number)
