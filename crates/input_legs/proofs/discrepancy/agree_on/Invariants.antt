use Rattle.std.proofs.Common.{◌≡◌, ◌++◌, length, take, drop, map}
use Rattle.std.specs.List.{All}
use Rattle.input_legs.specs.Inner.Alike.{agreed_row}
use Rattle.input_legs.specs.Inner.Counts.{IsLow}
use Rattle.input_legs.proofs.discrepancy.agree_on.Given as goal

-- the rows so far are counted, and those behind are as they were
abbrev pub invariant-loop-place : goal.invariant-loop-place
invariant-loop-place l = record {
  rows : l.rows ≡ map agreed_row (take l.place l.fn.rows) ++ drop l.place l.fn.rows;
  low : All IsLow l.rows;
}
