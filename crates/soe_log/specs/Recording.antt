-- A sequence of events recorder, scan by scan. Own rule.
use Rattle.std.specs.Prelude.{ℕ, ℤ, pos, ◌+◌, ◌-◌, ◌+ℤ◌, Bool, false, List, [], ◌++◌, length, replicate, take}
use Rattle.std.specs.List.{enumerate_from, fold}
use Rattle.tri_base.specs.declared.point.Point.{Point}
use Rattle.soe_log.specs.declared.event.Event.{Event}
use Rattle.soe_log.specs.Changes.{changed_of, discrete_points, values_of}

-- How many events are kept.
abbrev pub event_limit : ℕ
event_limit = 4096

-- How many milliseconds may have gone by before a scan that is noted: as many as the longest play takes.
abbrev pub time_limit : ℤ
time_limit = pos 20000000

-- How many events may be lost before a scan that is noted: far more than a play has.
abbrev pub lost_limit : ℕ
lost_limit = 4294967295

-- The most events of one scan: a chassis has no more points.
abbrev pub scan_event_limit : ℕ
scan_event_limit = 512

-- What a recorder has: the points of its chassis, the milliseconds that went by, the last values of the discrete points
-- in the order of the chassis, the events that it keeps, and how many more there were.
pub record RecorderData : Type 0 where
  pub points : List Point
  pub time : ℤ
  pub last : List Bool
  pub events : List Event
  pub lost : ℕ

-- What a recorder is shown of a scan: the scan time in milliseconds, and the words of the inputs and of the outputs.
pub record ScanShown : Type 0 where
  pub time : ℤ
  pub inputs : List ℤ
  pub outputs : List ℤ

-- A new recorder: nothing has happened yet, and each discrete point was FALSE.
abbrev pub new_recorder : List Point → RecorderData
new_recorder points = record {
  points = points;
  time = pos 0;
  last = replicate (length (discrete_points points)) false;
  events = [];
  lost = 0;
}

-- The events that are kept, and behind them what changed in a scan. The scan's own time counts.
abbrev pub events_with : RecorderData → (scan : ℕ) → ScanShown → List Event
events_with recorder scan shown =
    recorder.events
    ++ changed_of recorder.points recorder.last scan (recorder.time +ℤ shown.time)
    (values_of recorder.points shown.inputs shown.outputs)

-- A recorder after one scan more: the first events, as many as are kept; the others are counted.
abbrev pub note_scan_of : RecorderData → (scan : ℕ) → ScanShown → RecorderData
note_scan_of recorder scan shown =
    record {
      points = recorder.points;
      time = recorder.time +ℤ shown.time;
      last = values_of recorder.points shown.inputs shown.outputs;
      events = take event_limit (events_with recorder scan shown);
      lost = recorder.lost + (length (events_with recorder scan shown) - event_limit);
    }

-- A recorder after these scans, of which the first is scan 1.
abbrev pub recorder_after : List Point → List ScanShown → RecorderData
recorder_after points scans = fold (λ r s. note_scan_of r s.0 s.1) (new_recorder points) (enumerate_from 1 scans)
