-- What is told of scans: each leg's note, and the vote of what the three legs drive. Own rule.
use Rattle.std.specs.Prelude.{ℕ, ◌-◌, List, map, slice_index_or}
use Rattle.std.specs.List.{range_with_len}
use Rattle.tri_base.specs.declared.leg.Leg.{Leg}
use Rattle.tri_base.specs.declared.leg.Leg.TheVariants.{A, B, C}
use Rattle.tri_base.specs.declared.point.Point.{Point}
use Rattle.fault_history.specs.Notes.{NoteData, no_note}
use Rattle.diag_report.specs.Report.{ScanTold}
use Rattle.majority_laws.specs.Carried.{field_outputs}

-- What is told of a scan of which each leg made a note.
abbrev pub told_by : List Point → (Leg → NoteData) → ScanTold
told_by points notes =
    record { a = notes A; b = notes B; c = notes C; out = field_outputs points notes }

-- What is told of the first scans, from each leg's note of each. Scans count from 1.
abbrev pub told_first : List Point → (Leg → (scan : ℕ) → NoteData) → (scans : ℕ) → List ScanTold
told_first points notes scans =
    map (λ scan. told_by points (λ leg. notes leg scan)) (range_with_len 1 scans)

-- A leg's note of a scan among its notes of all.
abbrev pub note_of_scan : List NoteData → (scan : ℕ) → NoteData
note_of_scan notes scan = slice_index_or notes (scan - 1) no_note
