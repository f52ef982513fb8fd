-- Lines that put more words in place of a packet than a packet has room for. Own rule.
use Rattle.std.specs.Prelude.{ℤ, nat_lt, List, [], ◌∷◌, length, Option, Some, None, if◌then◌else◌}
use Rattle.leg_packet.specs.Sheets.{packet_limit}
use Rattle.script_text.specs.LegScans.{LegScan}

-- The words of a line, where they are too many.
abbrev pub long_line : Option (List ℤ) → Option (List ℤ)
long_line None = None
long_line (Some words) = if nat_lt packet_limit (length words) then Some words else None

-- Those of the four packets that a leg puts in a scan, in order.
abbrev pub long_lines : LegScan → List (Option (List ℤ))
long_lines l =
    long_line l.shown_left ∷ long_line l.shown_right ∷ long_line l.result_left ∷ long_line l.result_right ∷ []
