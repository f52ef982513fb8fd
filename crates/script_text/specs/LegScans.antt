-- What one leg sees of a script, scan by scan (own rules).
use Rattle.std.specs.Prelude.{ℕ, ℤ, pos, ◌<◌, ◌≤ℤ◌, zero, suc, ◌-◌, Bool, true, false, List, [], ◌∷◌, ◌++◌, length, map, fold, take, slice_set, slice_index_or, Option, Some, None}
use Rattle.std.specs.List.{All, AllZip, range_with_len}
use Rattle.tri_base.specs.Downloads.{Download}
use Rattle.tri_base.specs.Legs.{leg_part}
use Rattle.tri_base.specs.declared.leg.Leg.{Leg}
use Rattle.tri_base.specs.declared.leg.Leg.TheVariants.{A, B, C}
use Rattle.tri_base.specs.declared.leg.Side.{Side}
use Rattle.tri_base.specs.declared.leg.Side.TheVariants.{Left, Right}
use Rattle.tri_base.specs.declared.point.Point.{Point}
use Rattle.chassis.specs.Points.{inputs_of}
use Rattle.chassis.specs.Ranges.{IsWithin}
use Rattle.script_text.specs.declared.moment.ScanLine.{ScanLine}
use Rattle.script_text.specs.declared.moment.ScanLine.TheVariants.{Set, Time, Download as DownloadLine, Mute, Poke as PokeLine, Replace as ReplaceLine, Swap as SwapLine, Read, Result, Drive}
use Rattle.script_text.specs.MomentValue.{MomentValue}
use Rattle.script_text.specs.Moments.{moment_at}
use Rattle.script_text.specs.ScriptValue.{ScriptValue}
use Rattle.tri_base.specs.Limits.{scan_time_limit}

-- A line that changes the leg's state.
pub data LegAct : Type 0 where
  Poke : (address : ℕ) → (value : ℤ) → LegAct
  Replace : LegAct
  Swap : (text : List ℕ) → LegAct

-- What the leg sees of one scan.
pub record LegScan : Type 0 where
  -- the scan time in milliseconds, and the reading of each input in chassis order
  pub time : ℤ
  pub readings : List ℤ
  pub acts : List LegAct
  -- the words that a line puts in place of a packet, for each side, and in place of the drive
  pub shown_left : Option (List ℤ)
  pub shown_right : Option (List ℤ)
  pub result_left : Option (List ℤ)
  pub result_right : Option (List ℤ)
  pub drive : Option (List ℤ)
  pub download : Option Download

-- A scan without lines, with a time and readings.
abbrev pub reading_only : ℤ → List ℤ → LegScan
reading_only time readings = record {
  time = time;
  readings = readings;
  acts = [];
  shown_left = None;
  shown_right = None;
  result_left = None;
  result_right = None;
  drive = None;
  download = None;
}

-- The scan time before the first TIME line.
abbrev pub first_time : ℤ
first_time = pos 100

-- Past the last scan.
abbrev pub no_lines : LegScan
no_lines = reading_only first_time []

-- Before the first scan all inputs read 0.
abbrev pub unread : List Point → LegScan
unread points = reading_only first_time (map (λ p. pos 0) (inputs_of points))

-- What READ and MUTE lines show on a side.
abbrev pub shown_on : Side → LegScan → Option (List ℤ)
shown_on Left l = l.shown_left
shown_on Right l = l.shown_right

-- What RESULT and MUTE lines put on a side.
abbrev pub result_on : Side → LegScan → Option (List ℤ)
result_on Left l = l.result_left
result_on Right l = l.result_right

-- The renames of a download, none without one.
abbrev pub renames_of : Option Download → List (List ℕ × List ℕ)
renames_of None = []
renames_of (Some d) = d.renames

-- The place of a point among the inputs: how many inputs stand before it.
abbrev pub input_place : List Point → ℕ → ℕ
input_place points place = length (inputs_of (take place points))

-- Whether two legs are one.
abbrev pub same_leg : Leg → Leg → Bool
same_leg A A = true
same_leg B B = true
same_leg C C = true
same_leg a b = false

-- Words shown on a side, or on both where none is named.
abbrev pub with_shown : LegScan → Option Side → List ℤ → LegScan
with_shown l None words = record l { shown_left = Some words; shown_right = Some words }
with_shown l (Some Left) words = record l { shown_left = Some words }
with_shown l (Some Right) words = record l { shown_right = Some words }

-- Result words on a side, or on both where none is named.
abbrev pub with_result : LegScan → Option Side → List ℤ → LegScan
with_result l None words = record l { result_left = Some words; result_right = Some words }
with_result l (Some Left) words = record l { result_left = Some words }
with_result l (Some Right) words = record l { result_right = Some words }

-- A line that names a leg does this to it.
abbrev pub for_leg : LegScan → LegScan → Bool → LegScan
for_leg l changed true = changed
for_leg l changed false = l

-- A line more of the scan. The last one that says something of a packet's side, the drive, an input or the time
-- decides.
abbrev pub with_leg_line : List Point → List (List ℕ × List ℕ) → Leg → LegScan → ScanLine → LegScan
with_leg_line points renames leg l (Set setting) =
    record l { readings = slice_set l.readings (input_place points setting.point) (leg_part setting.reads leg) }
with_leg_line points renames leg l (Time reads) = record l { time = leg_part reads leg }
with_leg_line points renames leg l (DownloadLine text) =
    record l { download = Some (record { text = text; renames = renames }) }
with_leg_line points renames leg l (Mute other) =
    for_leg l (record l {
      shown_left = Some [];
      shown_right = Some [];
      result_left = Some [];
      result_right = Some [];
      drive = Some [];
    }) (same_leg other leg)
with_leg_line points renames leg l (PokeLine other address value) =
    for_leg l (record l { acts = l.acts ++ Poke address value ∷ [] }) (same_leg other leg)
with_leg_line points renames leg l (ReplaceLine other) =
    for_leg l (record l { acts = l.acts ++ Replace ∷ [] }) (same_leg other leg)
with_leg_line points renames leg l (SwapLine other text) =
    for_leg l (record l { acts = l.acts ++ Swap text ∷ [] }) (same_leg other leg)
with_leg_line points renames leg l (Read other side words) = for_leg l (with_shown l side words) (same_leg other leg)
with_leg_line points renames leg l (Result other side words) = for_leg l (with_result l side words) (same_leg other leg)
with_leg_line points renames leg l (Drive other words) =
    for_leg l (record l { drive = Some words }) (same_leg other leg)

-- A scan's lines behind the scan before, whose time and readings stay until a line changes them.
abbrev pub next_scan : List Point → Leg → LegScan → MomentValue → LegScan
next_scan points leg before m =
    fold (with_leg_line points m.renames leg) (reading_only before.time before.readings) m.lines

-- What a leg sees of a scan.
unfoldable pub scan_of : ScriptValue → Leg → ℕ → LegScan
scan_of v leg zero = unread v.points
scan_of v leg (suc k) = next_scan v.points leg (scan_of v leg k) (moment_at (suc k) v.moments)

-- The text that a leg swaps to is bytes.
abbrev pub SwapsBytes : LegAct → Type 0
SwapsBytes (Poke address value) = Unit {0}
SwapsBytes Replace = Unit {0}
SwapsBytes (Swap text) = All (λ b. b < 256) text

-- The text of a download is bytes.
abbrev pub LoadsBytes : Option Download → Type 0
LoadsBytes None = Unit {0}
LoadsBytes (Some d) = All (λ b. b < 256) d.text

-- A leg can read a scan: its time lies within the limits, each input has a reading within its range, and its texts are
-- bytes.
pub record IsReadable (points : List Point) (l : LegScan) : Type 0 where
  pub time : (pos 1 ≤ℤ l.time) × (l.time ≤ℤ scan_time_limit)
  pub readings : AllZip IsWithin (inputs_of points) l.readings
  pub acts : All SwapsBytes l.acts
  pub download : LoadsBytes l.download

-- A tape is what a leg sees of each scan, from 1 on.
pub record TapeValue : Type 0 where
  pub scans : List LegScan

-- A leg's tape of a script.
abbrev pub tape_of : ScriptValue → Leg → TapeValue
tape_of v leg = record { scans = map (scan_of v leg) (range_with_len 1 v.scans) }

-- What a tape has of a scan, counted from 1.
abbrev pub scan_at : TapeValue → ℕ → LegScan
scan_at t scan = slice_index_or t.scans (scan - 1) no_lines
