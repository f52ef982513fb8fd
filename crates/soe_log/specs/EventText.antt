-- The text of a recorder's events. Own rule.
use Rattle.std.specs.Prelude.{ℕ, pos, List, [], ◌∷◌, ◌++◌, Option, codes, slice_get}
use Rattle.std.specs.List.{flat_map}
use Rattle.std.specs.Option.{option_map_or}
use Rattle.std.specs.Fmt.{signed_decimal}
use Rattle.tri_base.specs.declared.point.Point.{Point}
use Rattle.vote_discrete.specs.Truths.{number}
use Rattle.report_lines.specs.Calm.{calm_line}
use Rattle.report_lines.specs.Lines.{line, spaced}
use Rattle.report_lines.specs.Refusals.{named}
use Rattle.soe_log.specs.declared.event.Event.{Event}
use Rattle.soe_log.specs.Recording.{RecorderData, ScanShown, recorder_after}

-- The name of the point at a place.
abbrev pub name_at : List Point → ℕ → List ℕ
name_at points place = option_map_or (λ point. point.name) (slice_get points place) []

-- An event: the scan, the time, the name of the point, and its value as 0 or 1.
abbrev pub event_line : List Point → Event → List ℕ
event_line points event =
    line (named (signed_decimal (pos event.scan) ++ spaced event.time) (name_at points event.point))
    (number event.value ∷ [])

-- The text: its title, the events in their order, how many more there were, whether all scans were calm.
abbrev pub write_events_of : RecorderData → Option ℕ → List ℕ
write_events_of recorder uncalm =
    line (codes "TRICON EVENTS") (pos 1 ∷ [])
    ++ (flat_map (event_line recorder.points) recorder.events
    ++ (line (codes "LOST") (pos recorder.lost ∷ []) ++ (calm_line uncalm ++ line (codes "END") [])))

-- The text of a whole play, from its chassis, its scans in order, and the first that wasn't calm.
abbrev pub events_text : List Point → List ScanShown → Option ℕ → List ℕ
events_text points scans uncalm = write_events_of (recorder_after points scans) uncalm
