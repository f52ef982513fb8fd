-- A packet of readings: 1, the scan time, and then one word for each input. Own format.
use Rattle.std.specs.Prelude.{ℤ, pos, ◌≤ℤ◌, int_le, ◌&&◌, List, ◌∷◌, Option, Some, None, if◌then◌else◌}
use Rattle.std.specs.List.{AllZip}
use Rattle.std.specs.Ordering.{int_eq}
use Rattle.tri_base.specs.declared.point.Point.{Point}
use Rattle.chassis.specs.Points.{inputs_of}
use Rattle.chassis.specs.Ranges.{IsWithin, are_within}
use Rattle.tri_base.specs.Limits.{scan_time_limit}

-- The scan time in milliseconds, and the inputs' counts in order of the chassis.
pub record Readings : Type 0 where
  pub time : ℤ
  pub values : List ℤ

-- Readings as words.
abbrev pub spelled_readings : Readings → List ℤ
spelled_readings r = pos 1 ∷ r.time ∷ r.values

-- A scan time from 1 on, and one value for each input, in its range.
pub record AreCanonical (points : List Point) (r : Readings) : Type 0 where
  pub from : pos 1 ≤ℤ r.time
  pub to : r.time ≤ℤ scan_time_limit
  pub values : AllZip IsWithin (inputs_of points) r.values

-- The canonical readings that a packet spells; None where it spells none. The laws reads_spelled_readings and
-- spells_read_readings say that it is just this.
abbrev pub readings_of : List Point → List ℤ → Option Readings
readings_of points (word ∷ time ∷ values) =
    if int_eq word (pos 1) && int_le (pos 1) time && int_le time scan_time_limit && are_within (inputs_of points) values
    then Some (record { time = time; values = values }) else None
readings_of points _ = None
