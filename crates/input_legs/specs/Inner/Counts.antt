-- Nobody has to believe what stands here: it serves private functions alone.
-- Readings that hold counts of 16 bits and a scan time, and counters that go up to five.
use Rattle.std.specs.Prelude.{ℕ, pos, ◌≤◌, ◌≤ℤ◌, Option, Some, None}
use Rattle.std.specs.List.{All}
use Rattle.tri_base.specs.declared.leg.Triple.{Triple}
use Rattle.leg_packet.specs.Readings.{Readings}
use Rattle.tri_base.specs.Limits.{scan_time_limit}
use Rattle.vote_analog.specs.Middle.{IsCount}
use Rattle.input_legs.specs.Marks.{mark_count}

-- A scan time of 1 to 10,000 ms, and values of 16 bits.
abbrev pub HoldsCounts : Option Readings → Type 0
HoldsCounts None = Unit {0}
HoldsCounts (Some r) = (pos 1 ≤ℤ r.time) × (r.time ≤ℤ scan_time_limit) × All (λ v. IsCount (Some v)) r.values

-- The same of three.
abbrev pub HoldCounts : Triple (Option Readings) → Type 0
HoldCounts rs = HoldsCounts rs.a × HoldsCounts rs.b × HoldsCounts rs.c

-- No counter is above the mark.
abbrev pub IsLow : Triple ℕ → Type 0
IsLow row = (row.a ≤ mark_count) × (row.b ≤ mark_count) × (row.c ≤ mark_count)
