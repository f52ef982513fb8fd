-- Nobody has to believe what stands here: it serves private functions alone.
use Rattle.std.specs.Prelude.{ℕ, ℤ, ◌+◌, ◌-◌, ◌++◌, List, length, take}
use Rattle.soe_log.specs.declared.event.Event.{Event}
use Rattle.soe_log.specs.Changes.{changed_of, values_of}
use Rattle.soe_log.specs.Recording.{RecorderData, event_limit}

-- The events before a scan, and behind them the scan's changes, at the time that is there.
abbrev pub events_noted : RecorderData → ℕ → (inputs outputs : List ℤ) → List Event
events_noted r scan inputs outputs =
    r.events ++ changed_of r.points r.last scan r.time (values_of r.points inputs outputs)

-- The recorder once a scan's changes are noted: the first of them that fit, and those that don't as lost.
abbrev pub points_noted : RecorderData → ℕ → (inputs outputs : List ℤ) → RecorderData
points_noted r scan inputs outputs = record {
  points = r.points;
  time = r.time;
  last = values_of r.points inputs outputs;
  events = take event_limit (events_noted r scan inputs outputs);
  lost = r.lost + (length (events_noted r scan inputs outputs) - event_limit);
}
