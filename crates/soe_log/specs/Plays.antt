-- What a recorder has of a whole play. Own rule.
use Rattle.std.specs.Prelude.{◌≡◌, ℕ, ℤ, pos, ◌+◌, ◌-◌, ◌≤◌, ◌+ℤ◌, ◌≤ℤ◌, Bool, false, List, [], ◌∷◌, ◌++◌, length, replicate, take}
use Rattle.std.specs.List.{All}
use Rattle.tri_base.specs.declared.point.Point.{Point}
use Rattle.tri_base.specs.Limits.{scan_limit, scan_time_limit}
use Rattle.chassis.specs.Points.{IsChassis}
use Rattle.soe_log.specs.declared.event.Event.{Event}
use Rattle.soe_log.specs.Changes.{changed_of, discrete_points, values_of}
use Rattle.soe_log.specs.Recording.{RecorderData, ScanShown, event_limit, lost_limit, note_scan_of, recorder_after, time_limit}

-- All changes of scans, from the last values, the first scan's number and the time before it: those of the first scan,
-- and behind them those of the further ones.
abbrev pub changes_from : List Point → (last : List Bool) → (scan : ℕ) → (time : ℤ) → List ScanShown → List Event
changes_from points last scan time [] = []
changes_from points last scan time (shown ∷ scans) =
    let values = values_of points shown.inputs shown.outputs in
    changed_of points last scan (time +ℤ shown.time) values
    ++ changes_from points values (scan + 1) (time +ℤ shown.time) scans

-- All changes of a play: before its first scan each discrete point is FALSE.
abbrev pub changes_of : List Point → List ScanShown → List Event
changes_of points scans = changes_from points (replicate (length (discrete_points points)) false) 1 (pos 0) scans

-- A recorder has the first 4,096 changes of the play, and counts the others.
pub record KeepsTheFirst (points : List Point) (scans : List ScanShown) : Type 0 where
  pub events : (recorder_after points scans).events ≡ take event_limit (changes_of points scans)
  pub lost : (recorder_after points scans).lost ≡ length (changes_of points scans) - event_limit

-- One scan more is noted in the recorder of the scans before it.
abbrev pub NotesOneMore : List Point → List ScanShown → ScanShown → Type 0
NotesOneMore points scans shown =
    recorder_after points (scans ++ shown ∷ []) ≡ note_scan_of (recorder_after points scans) (length scans + 1) shown

-- A recorder is of this chassis, and takes one scan more.
pub record TakesAScan (chassis : List Point) (recorder : RecorderData) : Type 0 where
  pub points : recorder.points ≡ chassis
  pub time : recorder.time ≤ℤ time_limit
  pub lost : recorder.lost ≤ lost_limit

-- The recorder of a play takes one scan more, as long as the play has no more scans than a script has.
abbrev pub PlaysFit : Type 0
PlaysFit =
    (points : List Point) (scans : List ScanShown) → IsChassis points
    → All (λ shown. shown.time ≤ℤ scan_time_limit) scans → length scans ≤ scan_limit
    → TakesAScan points (recorder_after points scans)
