-- The report of the three legs as a whole, from what is told of each scan and of the end. Own rule.
use Rattle.std.specs.Prelude.{ℕ, ℤ, pos, ◌+ℤ◌, List, [], ◌∷◌, ◌++◌, length, map, count_by, Bool, Option, codes}
use Rattle.std.specs.List.{enumerate_from, flat_map, fold, zip}
use Rattle.tri_base.specs.declared.leg.Leg.TheVariants.{A, B, C}
use Rattle.tri_base.specs.declared.leg.Leg.{Leg}
use Rattle.tri_base.specs.declared.leg.Triple.{Triple}
use Rattle.tri_base.specs.declared.point.Point.{Point}
use Rattle.fault_history.specs.AlarmTests.{alarms_of}
use Rattle.fault_history.specs.declared.history.Entry.{Entry}
use Rattle.fault_history.specs.Histories.{note_of}
use Rattle.fault_history.specs.Notes.{EndingData, NoteData}
use Rattle.diag_report.specs.ScanPart.{scan_part_of}
use Rattle.diag_report.specs.EndPart.{end_part_of}
use Rattle.diag_report.specs.Summary.{summary_of}

-- What is told of a scan: each leg's note of it, and the values of the outputs.
pub record ScanTold : Type 0 where
  pub a : NoteData
  pub b : NoteData
  pub c : NoteData
  pub out : List ℤ

-- The same of each scan, from the legs' notes and the values of the outputs, scan by scan.
abbrev pub scans_told : Triple (List NoteData) → List (List ℤ) → List ScanTold
scans_told notes outs =
    map (λ s. record { a = s.0; b = s.1.0; c = s.1.1.0; out = s.1.1.1 }) (zip notes.a (zip notes.b (zip notes.c outs)))

-- The first line.
abbrev pub report_head : List ℕ
report_head = codes "TRICON REPORT 1\n"

-- A scan's part.
abbrev pub part_at : ℕ × ScanTold → List ℕ
part_at s = scan_part_of s.0 s.1.a s.1.b s.1.c s.1.out

-- The parts of the scans in their order, of which the first is scan 1.
abbrev pub scan_parts : List ScanTold → List ℕ
scan_parts scans = flat_map part_at (enumerate_from 1 scans)

-- What the legs were judged in a scan, in the order A, B, C.
abbrev pub judgements_at : ℕ × ScanTold → List Entry
judgements_at s =
    record { scan = s.0; leg = A; judged = s.1.a.judged }
    ∷ record { scan = s.0; leg = B; judged = s.1.b.judged }
    ∷ record { scan = s.0; leg = C; judged = s.1.c.judged }
    ∷ []

-- The history behind the scans: each judgement is noted, in the order of scans and then of legs.
abbrev pub history_of : List ScanTold → List Entry
history_of scans = fold note_of [] (flat_map judgements_at (enumerate_from 1 scans))

-- A number and the sum of a scan's outputs.
abbrev pub plus_outputs : ℤ → ScanTold → ℤ
plus_outputs sum told = fold (λ a b. a +ℤ b) sum told.out

-- The sum of all values of all outputs.
abbrev pub output_sum : List ScanTold → ℤ
output_sum scans = fold plus_outputs (pos 0) scans

-- A scan has the alarm MP.
abbrev pub has_mp : ScanTold → Bool
has_mp told = (alarms_of told.a told.b told.c told.out).mp

-- How many scans have the alarm MP.
abbrev pub alarmed_scans : List ScanTold → ℕ
alarmed_scans scans = count_by has_mp scans

-- The report: the first line; the scans; what is told behind the last one, with the history of these scans.
abbrev pub report_of : List Point → List ScanTold → List (ℕ × Leg) → Triple EndingData → Option ℕ → List ℕ
report_of points scans marks endings uncalm =
    report_head
    ++ (scan_parts scans ++ end_part_of points (history_of scans) marks endings.a endings.b endings.c uncalm)

-- The summary of these scans.
abbrev pub report_summary : List ScanTold → Option ℕ → List ℕ
report_summary scans uncalm = summary_of (length scans) (output_sum scans) (alarmed_scans scans) uncalm
