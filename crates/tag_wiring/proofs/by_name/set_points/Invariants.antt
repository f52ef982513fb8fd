use Rattle.std.proofs.Common.{◌≡◌, ◌+◌, length, drop}
use Rattle.chassis.specs.Points.{inputs_of}
use Rattle.tag_wiring.specs.Inner.Steps.{input_words}
use Rattle.tag_wiring.proofs.by_name.set_points.Given as goal

-- what is left to be set makes the same of the words so far as all makes of the first ones
abbrev pub invariant-loop-point : goal.invariant-loop-point
invariant-loop-point l = record {
  list : input_words l.layout (inputs_of (drop l.point-index l.points)) (drop l.place l.inputs) l.words.list ≡ input_words l.layout (inputs_of l.points) l.inputs l.fn.words.list;
  left : l.place + length (inputs_of (drop l.point-index l.points)) ≡ length l.inputs;
  count : length l.words.list ≡ length l.fn.words.list;
  spare : l.words.spare ≡ l.fn.words.spare;
}
