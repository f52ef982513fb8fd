-- What a leg puts towards its neighbours in the exchange of readings. Own rule.
use Rattle.std.specs.Prelude.{ℤ, List, Option, Some, None}
use Rattle.tri_base.specs.declared.leg.Side.{Side}
use Rattle.script_text.specs.LegScans.{LegScan, shown_on}
use Rattle.leg_packet.specs.Readings.{spelled_readings}

-- The words of a line where one decides, else those that would stand there without it.
abbrev pub decided_or : Option (List ℤ) → List ℤ → List ℤ
decided_or None words = words
decided_or (Some decided) words = decided

-- A leg's readings packet towards a side: the words of the READ or MUTE line that decides there, else what it reads.
abbrev pub face : Side → LegScan → List ℤ
face side l = decided_or (shown_on side l) (spelled_readings (record { time = l.time; values = l.readings }))
