-- Nobody has to believe what stands here: it serves private functions alone.
-- Events that are kept as long as there is room, and counted from then on.
use Rattle.std.specs.Prelude.{ℕ, ◌+◌, ◌-◌, Bool, List, [], ◌∷◌, ◌++◌, length, take, if◌then◌else◌, not}
use Rattle.soe_log.specs.declared.event.Event.{Event}
use Rattle.soe_log.specs.Recording.{event_limit}

-- The events that are kept, and how many were lost since.
pub record LogData : Type 0 where
  pub events : List Event
  pub lost : ℕ

-- Events more.
abbrev pub logged : LogData → List Event → LogData
logged log more = record {
  events = take event_limit (log.events ++ more);
  lost = log.lost + (length (log.events ++ more) - event_limit);
}

-- One event more, where its value isn't the older one.
abbrev pub noted : LogData → Bool → Event → LogData
noted log older event =
    logged log (if (if older then not event.value else event.value) then event ∷ [] else [])
