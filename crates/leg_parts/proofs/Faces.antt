-- What a leg shows itself.
use Rattle.std.proofs.Common.{◌≡◌, ◌<◌, ◌≤◌, ℤ, List, [], length, Option, Some, sym, ap, ◌∙◌}
use Rattle.tri_base.specs.declared.point.Point.{Point}
use Rattle.tri_base.specs.declared.leg.Side.TheVariants.{Right}
use Rattle.chassis.specs.Points.{inputs_of, point_limit}
use Rattle.leg_packet.specs.Readings.{readings_of, spelled_readings}
use Rattle.leg_packet.specs.Sheets.{packet_limit}
use Rattle.leg_packet.proofs.Spelling.{long_absent}
use Rattle.script_text.specs.LegScans.{LegScan, shown_on}
use Rattle.plant_script.specs.Faces.{decided_or, face}

-- a line with too many words is no readings, and neither is no word
pub long_face : (points : List Point) (l : LegScan) (words : List ℤ) → length (inputs_of points) ≤ point_limit
    → Some words ≡ shown_on Right l → packet_limit < length words
    → readings_of points [] ≡ readings_of points (face Right l)
long_face points l words few e long =
    let f : words ≡ face Right l = ap (λ (o : Option (List ℤ)). decided_or o (spelled_readings (record { time = l.time; values = l.readings }))) e in
    sym (ap (readings_of points) (sym f) ∙ long_absent points words few long)
