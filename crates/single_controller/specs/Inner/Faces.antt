-- Nobody has to believe what stands here: it serves private functions alone.
-- What a leg shows its right neighbour.
use Rattle.std.specs.Prelude.{ℤ, ◌≤◌, List, length}
use Rattle.std.specs.List.{All}
use Rattle.chassis.specs.Points.{point_limit}
use Rattle.script_text.specs.LegScans.{LegScan, TapeValue}

-- A leg's tape, and the packet that it showed last.
pub record FaceValue : Type 0 where
  pub tape : TapeValue
  pub packet : List ℤ

-- A scan has no more readings than a chassis has inputs.
abbrev pub IsFew : LegScan → Type 0
IsFew l = length l.readings ≤ point_limit

-- So has each scan of a tape.
abbrev pub AreFew : TapeValue → Type 0
AreFew t = All IsFew t.scans
