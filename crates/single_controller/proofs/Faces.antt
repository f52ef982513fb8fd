-- What the legs show.
use Rattle.std.proofs.Common.{◌≤◌, List, length, arith}
use Rattle.std.proofs.lemmas.List.Elements.{All-weaker}
use Rattle.std.proofs.lemmas.Slice.Zip.{AllZip-long}
use Rattle.std.specs.List.{All}
use Rattle.tri_base.specs.declared.point.Point.{Point}
use Rattle.chassis.specs.Points.{inputs_of, point_limit}
use Rattle.chassis.specs.Ranges.{IsWithin}
use Rattle.script_text.specs.LegScans.{IsReadable, LegScan}
use Rattle.single_controller.specs.Inner.Faces.{IsFew}

-- no scan has more readings than the chassis has inputs
pub few_of : (points : List Point) (scans : List LegScan) → length (inputs_of points) ≤ point_limit → All (IsReadable points) scans → All IsFew scans
few_of points scans few h = All-weaker (IsReadable points) IsFew one scans h
  where
    one : (l : LegScan) → IsReadable points l → IsFew l
    one l r = omega (arith, few, AllZip-long IsWithin (inputs_of points) l.readings r.readings)
