use Rattle.std.proofs.Common.{◌≡◌, ◌+◌, ◌++◌, length, take, drop}
use Rattle.std.specs.List.{All}
use Rattle.chassis.specs.Points.{inputs_of}
use Rattle.input_legs.specs.Marks.{counted_from}
use Rattle.input_legs.specs.Inner.Counts.{IsLow}
use Rattle.input_legs.specs.Inner.Shown.{three_shown}
use Rattle.input_legs.proofs.discrepancy.count_on.Given as goal

-- the rows so far are counted, and those behind are as they were
abbrev pub invariant-loop-point : goal.invariant-loop-point
invariant-loop-point l = record {
  rows : take l.input l.rows
      ++ counted_from (inputs_of (drop l.point-index l.points)) l.input (three_shown l.shown) (drop l.input l.rows)
      ≡ counted_from (inputs_of l.points) 0 (three_shown l.shown) l.fn.rows;
  left : l.input + length (inputs_of (drop l.point-index l.points)) ≡ length l.rows;
  low : All IsLow l.rows;
}
