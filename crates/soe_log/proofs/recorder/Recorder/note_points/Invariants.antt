use Rattle.std.proofs.Common.{◌≡◌, ◌≤◌, length}
use Rattle.soe_log.specs.Changes.{discrete_points, value_of}
use Rattle.soe_log.specs.Recording.{scan_event_limit}
use Rattle.soe_log.proofs.Walking.{Walked}
use Rattle.soe_log.proofs.recorder.Recorder.note_points.Given as goal

-- the values and events of the points so far
abbrev pub invariant-loop-place : goal.invariant-loop-place
invariant-loop-place l = record {
  chassis : l.self-inside.chassis.value ≡ l.fn.self.points;
  points : l.self-inside.points.items ≡ discrete_points l.fn.self.points;
  few_points : length (discrete_points l.fn.self.points) ≤ scan_event_limit;
  time : l.self-inside.time ≡ l.fn.self.time;
  walked :
      Walked (discrete_points l.fn.self.points) (value_of l.inputs.list l.outputs.list) l.fn.self.last l.scan
      l.fn.self.time (record { events = l.fn.self.events; lost = l.fn.self.lost }) l.place
      l.self-inside.last.items l.self-inside.log;
}
