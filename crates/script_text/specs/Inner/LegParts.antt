-- How a tape is kept: what a leg reads from a scan on, and what the lines of a scan say to it. It serves private fields
-- alone: nobody has to believe it.
use Rattle.std.specs.Prelude.{◌≡◌, ℕ, ℤ, ◌+◌, ◌<◌, ◌≤ℤ◌, ◌==◌, nat_le, Bool, true, false, List, [], ◌∷◌, ◌++◌, length, map, fold, flat_map, slice_set, slice_index_or, Option, Some, None, if◌then◌else◌}
use Rattle.std.specs.List.{range_with_len}
use Rattle.std.specs.List.Sorted.{IsNonDecreasingBy, IsPartitionPoint}
use Rattle.tri_base.specs.Limits.{least_count, greatest_count}
use Rattle.tri_base.specs.Downloads.{Download}
use Rattle.tri_base.specs.Legs.{leg_part}
use Rattle.tri_base.specs.declared.leg.Leg.{Leg}
use Rattle.tri_base.specs.declared.leg.Side.{Side}
use Rattle.tri_base.specs.declared.leg.Side.TheVariants.{Left, Right}
use Rattle.tri_base.specs.declared.point.Point.{Point}
use Rattle.chassis.specs.Points.{is_input_kind}
use Rattle.script_text.specs.declared.moment.ScanLine.{ScanLine}
use Rattle.script_text.specs.declared.moment.ScanLine.TheVariants.{Set, Time, Download as DownloadLine, Mute, Poke as PokeLine, Replace as ReplaceLine, Swap as SwapLine, Read, Result, Drive}
use Rattle.script_text.specs.MomentValue.{MomentValue}
use Rattle.script_text.specs.LegScans.{LegAct, Poke, Replace, Swap, LegScan, same_leg}

-- ---- the scans of moments

-- they rise from above `last`
abbrev pub Rise : ℕ → List MomentValue → Type 0
Rise last [] = Unit {0}
Rise last (m ∷ moments) = (last < m.scan) × Rise m.scan moments

abbrev pub MomentsCount : ℕ → List MomentValue → ℕ → Type 0
MomentsCount scan moments count =
    IsPartitionPoint (λ m. nat_le m.scan scan ≡ true) (λ m. nat_le m.scan scan ≡ false) moments count

-- ---- what a leg reads

pub record RowValue : Type 0 where
  pub scan : ℕ
  pub time : ℤ
  pub readings : List ℤ

-- the place among the inputs of each point, or of the next input where the point is an output
abbrev pub places_from : ℕ → List Point → List ℕ
places_from count [] = []
places_from count (p ∷ points) = count ∷ places_from (if is_input_kind p.kind then count + 1 else count) points

abbrev pub with_reading : List ℕ → Leg → RowValue → ScanLine → RowValue
with_reading places leg row (Set setting) =
    record row {
      readings = slice_set row.readings (slice_index_or places setting.point 0) (leg_part setting.reads leg);
    }
with_reading places leg row (Time reads) = record row { time = leg_part reads leg }
with_reading places leg row line = row

abbrev pub next_row : List ℕ → Leg → RowValue → MomentValue → RowValue
next_row places leg row m = fold (with_reading places leg) (record row { scan = m.scan }) m.lines

-- what is read from the scan of each moment on
abbrev pub rows_from : List ℕ → Leg → RowValue → List MomentValue → List RowValue
rows_from places leg row [] = []
rows_from places leg row (m ∷ moments) =
    next_row places leg row m ∷ rows_from places leg (next_row places leg row m) moments

-- a reading has 16 bits
abbrev pub HasBits : ℤ → Type 0
HasBits z = (least_count ≤ℤ z) × (z ≤ℤ greatest_count)

-- a line sets a reading that is there, to 16 bits
abbrev pub SetFits : List ℕ → ℕ → ScanLine → Type 0
SetFits places inputs (Set setting) =
    (setting.point < length places) × (slice_index_or places setting.point 0 < inputs)
    × HasBits setting.reads.a × HasBits setting.reads.b × HasBits setting.reads.c
SetFits places inputs line = Unit {0}

abbrev pub AllFit : List ℕ → ℕ → List ScanLine → Type 0
AllFit places inputs [] = Unit {0}
AllFit places inputs (line ∷ lines) = SetFits places inputs line × AllFit places inputs lines

abbrev pub MomentsFit : List ℕ → ℕ → List MomentValue → Type 0
MomentsFit places inputs [] = Unit {0}
MomentsFit places inputs (m ∷ moments) = AllFit places inputs m.lines × MomentsFit places inputs moments

-- the last row up to a scan, or the one before all
abbrev pub row_until : RowValue → ℕ → List RowValue → RowValue
row_until start scan rows = fold (λ before row. if nat_le row.scan scan then row else before) start rows

abbrev pub RowsSorted : List RowValue → Type 0
RowsSorted rows = IsNonDecreasingBy (λ r. r.scan) rows

abbrev pub RowsCount : ℕ → List RowValue → ℕ → Type 0
RowsCount scan rows count =
    IsPartitionPoint (λ r. nat_le r.scan scan ≡ true) (λ r. nat_le r.scan scan ≡ false) rows count

-- ---- what the lines of a scan say to a leg

pub record LegLinesValue : Type 0 where
  pub scan : ℕ
  pub acts : List LegAct
  pub shown_left : Option (List ℤ)
  pub shown_right : Option (List ℤ)
  pub result_left : Option (List ℤ)
  pub result_right : Option (List ℤ)
  pub drive : Option (List ℤ)
  pub text : Option (List ℕ)
  pub renames : List (List ℕ × List ℕ)

abbrev pub nothing_said : ℕ → List (List ℕ × List ℕ) → LegLinesValue
nothing_said scan renames = record {
  scan = scan;
  acts = [];
  shown_left = None;
  shown_right = None;
  result_left = None;
  result_right = None;
  drive = None;
  text = None;
  renames = renames;
}

abbrev pub lines_shown : LegLinesValue → Option Side → List ℤ → LegLinesValue
lines_shown l None words = record l { shown_left = Some words; shown_right = Some words }
lines_shown l (Some Left) words = record l { shown_left = Some words }
lines_shown l (Some Right) words = record l { shown_right = Some words }

abbrev pub lines_result : LegLinesValue → Option Side → List ℤ → LegLinesValue
lines_result l None words = record l { result_left = Some words; result_right = Some words }
lines_result l (Some Left) words = record l { result_left = Some words }
lines_result l (Some Right) words = record l { result_right = Some words }

abbrev pub shown_by : Side → LegLinesValue → Option (List ℤ)
shown_by Left l = l.shown_left
shown_by Right l = l.shown_right

abbrev pub result_by : Side → LegLinesValue → Option (List ℤ)
result_by Left l = l.result_left
result_by Right l = l.result_right

-- the renames count where there is a download
abbrev pub renames_with : Option (List ℕ) → List (List ℕ × List ℕ) → List (List ℕ × List ℕ)
renames_with None renames = []
renames_with (Some text) renames = renames

abbrev pub renames_by : LegLinesValue → List (List ℕ × List ℕ)
renames_by l = renames_with l.text l.renames

abbrev pub lines_muted : LegLinesValue → LegLinesValue
lines_muted l = record l {
  shown_left = Some [];
  shown_right = Some [];
  result_left = Some [];
  result_right = Some [];
  drive = Some [];
}

-- a line that names the leg
abbrev pub said_to : LegLinesValue → ScanLine → LegLinesValue
said_to l (Mute other) = lines_muted l
said_to l (PokeLine other address value) = record l { acts = l.acts ++ Poke address value ∷ [] }
said_to l (ReplaceLine other) = record l { acts = l.acts ++ Replace ∷ [] }
said_to l (SwapLine other text) = record l { acts = l.acts ++ Swap text ∷ [] }
said_to l (Read other side words) = lines_shown l side words
said_to l (Result other side words) = lines_result l side words
said_to l (Drive other words) = record l { drive = Some words }
said_to l (DownloadLine text) = record l { text = Some text }
said_to l (Set setting) = l
said_to l (Time reads) = l

-- whether a line says something to the leg
abbrev pub names_leg : Leg → ScanLine → Bool
names_leg leg (Mute other) = same_leg other leg
names_leg leg (PokeLine other address value) = same_leg other leg
names_leg leg (ReplaceLine other) = same_leg other leg
names_leg leg (SwapLine other text) = same_leg other leg
names_leg leg (Read other side words) = same_leg other leg
names_leg leg (Result other side words) = same_leg other leg
names_leg leg (Drive other words) = same_leg other leg
names_leg leg (DownloadLine text) = true
names_leg leg (Set setting) = false
names_leg leg (Time reads) = false

abbrev pub with_said : Leg → LegLinesValue → ScanLine → LegLinesValue
with_said leg l line = if names_leg leg line then said_to l line else l

abbrev pub lines_for : Leg → MomentValue → LegLinesValue
lines_for leg m = fold (with_said leg) (nothing_said m.scan m.renames) m.lines

-- whether any line says something to the leg
abbrev pub some_line : Leg → List ScanLine → Bool
some_line leg [] = false
some_line leg (line ∷ lines) = if names_leg leg line then true else some_line leg lines

-- the lines of the scans that say something
abbrev pub said_in : Leg → MomentValue → List LegLinesValue
said_in leg m = if some_line leg m.lines then lines_for leg m ∷ [] else []

abbrev pub all_said : Leg → List MomentValue → List LegLinesValue
all_said leg moments = flat_map (said_in leg) moments

-- the last ones up to a scan, or the ones before all
abbrev pub lines_until : LegLinesValue → ℕ → List LegLinesValue → LegLinesValue
lines_until start scan lines = fold (λ before l. if nat_le l.scan scan then l else before) start lines

-- those of a scan
abbrev pub of_scan : ℕ → LegLinesValue → LegLinesValue
of_scan scan l = if l.scan == scan then l else nothing_said scan []

abbrev pub lines_on : ℕ → List LegLinesValue → LegLinesValue
lines_on scan lines = of_scan scan (lines_until (nothing_said scan []) scan lines)

abbrev pub LinesSorted : List LegLinesValue → Type 0
LinesSorted lines = IsNonDecreasingBy (λ l. l.scan) lines

abbrev pub LinesCount : ℕ → List LegLinesValue → ℕ → Type 0
LinesCount scan lines count =
    IsPartitionPoint (λ l. nat_le l.scan scan ≡ true) (λ l. nat_le l.scan scan ≡ false) lines count

-- ---- both

abbrev pub download_of : Option (List ℕ) → List (List ℕ × List ℕ) → Option Download
download_of None renames = None
download_of (Some text) renames = Some (record { text = text; renames = renames })

abbrev pub joined : RowValue → LegLinesValue → LegScan
joined row l = record {
  time = row.time;
  readings = row.readings;
  acts = l.acts;
  shown_left = l.shown_left;
  shown_right = l.shown_right;
  result_left = l.result_left;
  result_right = l.result_right;
  drive = l.drive;
  download = download_of l.text l.renames;
}

abbrev pub scan_kept : RowValue → List RowValue → List LegLinesValue → ℕ → LegScan
scan_kept start rows lines scan = joined (row_until start scan rows) (lines_on scan lines)

abbrev pub scans_kept : ℕ → RowValue → List RowValue → List LegLinesValue → List LegScan
scans_kept scans start rows lines = map (scan_kept start rows lines) (range_with_len 1 scans)
