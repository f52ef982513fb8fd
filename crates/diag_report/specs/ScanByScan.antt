-- The report as it grows, scan by scan.
use Rattle.std.specs.Prelude.{◌≡◌, ℤ, ◌+◌, List, [], ◌∷◌, ◌++◌, length, filter, if◌then◌else◌}
use Rattle.std.specs.List.{enumerate_from, flat_map, fold}
use Rattle.tri_base.specs.declared.leg.Triple.{Triple}
use Rattle.fault_history.specs.Histories.{is_kept, last_entries, note_of}
use Rattle.fault_history.specs.Notes.{NoteData}
use Rattle.diag_report.specs.Report.{ScanTold, alarmed_scans, has_mp, history_of, judgements_at, output_sum, part_at, plus_outputs, scan_parts, scans_told}

-- What one scan more adds: its part; its judgements, in the order A, B, C; the values of its outputs; and 1 where it
-- has the alarm MP.
pub record AddsScan (scans : List ScanTold) (told : ScanTold) : Type 0 where
  pub parts : scan_parts (scans ++ told ∷ []) ≡ scan_parts scans ++ part_at (length scans + 1, told)
  pub history :
      history_of (scans ++ told ∷ [])
      ≡ fold note_of (history_of scans) (judgements_at (length scans + 1, told))
  pub sum : output_sum (scans ++ told ∷ []) ≡ plus_outputs (output_sum scans) told
  pub alarmed : alarmed_scans (scans ++ told ∷ []) ≡ alarmed_scans scans + (if has_mp told then 1 else 0)

-- Lists with one entry for each scan, and one entry more in each.
abbrev pub AddsNotes : Triple (List NoteData) → List (List ℤ) → ScanTold → Type 0
AddsNotes notes outs told =
    (length notes.a ≡ length outs) × (length notes.b ≡ length outs) × (length notes.c ≡ length outs)
    → scans_told (record { a = notes.a ++ told.a ∷ []; b = notes.b ++ told.b ∷ []; c = notes.c ++ told.c ∷ [] })
    (outs ++ told.out ∷ [])
    ≡ scans_told notes outs ++ told ∷ []

-- The history is the last 64 of those judgements that are kept, in the order of scans and then of legs.
abbrev pub HasTheLast : List ScanTold → Type 0
HasTheLast scans =
    history_of scans
    ≡ last_entries (filter (λ e. is_kept e.judged) (flat_map judgements_at (enumerate_from 1 scans)))
