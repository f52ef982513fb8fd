-- Nobody has to believe what stands here: it serves private fields alone.
use Rattle.std.specs.Prelude.{◌≡◌, ◌≤◌, ◌+◌, length}
use Rattle.soe_log.specs.Changes.{discrete_points}
use Rattle.soe_log.specs.Recording.{event_limit, lost_limit, scan_event_limit}
use Rattle.soe_log.specs.declared.recorder.Recorder.TheInside.{Inside}

-- What holds of a recorder: it has the discrete points of its chassis, a value of each, and no more events than fit.
pub record IsKept (s : Inside) : Type 0 where
  pub points : s.points.items ≡ discrete_points s.chassis.value
  pub few_points : length s.points.items ≤ scan_event_limit
  pub values : length s.last.items ≡ length s.points.items
  pub few : length s.log.events ≤ event_limit
  pub lost : s.log.lost ≤ lost_limit + scan_event_limit
