-- Tapes that can be read.
use Rattle.std.proofs.Common.{◌≡◌, List, length, arith}
use Rattle.std.proofs.lemmas.List.Elements.{All-weaker}
use Rattle.std.proofs.lemmas.Slice.Zip.{AllZip-long}
use Rattle.std.specs.List.{All}
use Rattle.tri_base.specs.declared.point.Point.{Point}
use Rattle.chassis.specs.Points.{inputs_of}
use Rattle.chassis.specs.Ranges.{IsWithin}
use Rattle.script_text.specs.LegScans.{IsReadable, LegScan, TapeValue}
use Rattle.leg_core.specs.Calls.{ReadsInputs}

pub reads_inputs : (points : List Point) (tape : TapeValue) → All (IsReadable points) tape.scans → ReadsInputs points tape
reads_inputs points tape h =
    All-weaker (IsReadable points) (λ (l : LegScan). length l.readings ≡ length (inputs_of points)) one tape.scans h
  where
    one : (l : LegScan) → IsReadable points l → length l.readings ≡ length (inputs_of points)
    one l r = omega (arith, AllZip-long IsWithin (inputs_of points) l.readings r.readings)
