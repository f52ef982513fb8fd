use Rattle.std.proofs.Common.{◌≡◌, ◌++◌, take}
use Rattle.std.specs.List.{flat_map}
use Rattle.soe_log.specs.EventText.{event_line}
use Rattle.soe_log.proofs.text.push_events.Given as goal

-- the events so far
abbrev pub invariant-loop-event : goal.invariant-loop-event
invariant-loop-event l =
    l.text.list ≡ l.fn.text.list ++ flat_map (event_line l.points) (take l.event-index l.events)
