use Rattle.std.proofs.Common.{◌≡◌, ◌≤◌, ◌+◌, ◌++◌, length, drop}
use Rattle.chassis.specs.Points.{inputs_of}
use Rattle.input_legs.specs.VotedSheets.{voted_from}
use Rattle.input_legs.specs.Inner.Shown.{three_shown}
use Rattle.input_legs.proofs.sheet.add_votes.Given as goal

-- the votes so far and those at the points that are left
abbrev pub invariant-loop-point : goal.invariant-loop-point
invariant-loop-point l = record {
  list : l.values.list ++ voted_from (inputs_of (drop l.point-index l.points)) l.input (three_shown l.shown)
      ≡ l.fn.values.list ++ voted_from (inputs_of l.points) 0 (three_shown l.shown);
  room : l.values.spare + length (inputs_of l.points) ≡ l.fn.values.spare + length (inputs_of (drop l.point-index l.points));
  input : l.input ≤ l.point-index;
}
