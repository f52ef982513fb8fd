-- Three scans worked by hand, with two outputs: all agree; then legs A and B accuse C, whose drive is muted; then they
-- accuse C, which has learned all and drives nothing.
use Rattle.std.specs.Prelude.{◌≡◌, ℕ, ℤ, pos, negsuc, false, List, [], ◌∷◌, Option, Some, None}
use Rattle.tri_base.specs.declared.leg.Leg.{Leg}
use Rattle.tri_base.specs.declared.leg.Leg.TheVariants.{A, B, C}
use Rattle.tri_base.specs.declared.judged.Judged.{Judged}
use Rattle.tri_base.specs.declared.judged.Judged.TheVariants.{Agrees, Accuses, Ready}
use Rattle.fault_history.specs.declared.history.Entry.{Entry}
use Rattle.fault_history.specs.Notes.{NoteData}
use Rattle.diag_report.specs.Report.{ScanTold, alarmed_scans, history_of, output_sum, scans_told}

-- A note that tells what its leg was judged and drives.
abbrev pub worked_note : Judged → Option (List ℤ) → NoteData
worked_note judged drive = record {
  verdict = None;
  time = pos 100;
  values = [];
  judged = judged;
  drive = drive;
  arith = false;
  marked = false;
}

-- The values of the outputs: 1 and 7; 0 and -10; 1 and 0.
abbrev pub worked_outputs : List (List ℤ)
worked_outputs = (pos 1 ∷ pos 7 ∷ []) ∷ (pos 0 ∷ negsuc 9 ∷ []) ∷ (pos 1 ∷ pos 0 ∷ []) ∷ []

-- A leg's notes: what it is judged in each scan, and what it drives in the second and third; 1 and 7 in the first.
abbrev pub worked_notes : Judged → Judged → Judged → Option (List ℤ) → Option (List ℤ) → List NoteData
worked_notes first second third drive last =
    worked_note first (Some (pos 1 ∷ pos 7 ∷ [])) ∷ worked_note second drive ∷ worked_note third last ∷ []

-- Legs A and B.
abbrev pub sound_notes : List NoteData
sound_notes =
    worked_notes Agrees (Accuses C) (Accuses C) (Some (pos 0 ∷ negsuc 9 ∷ [])) (Some (pos 1 ∷ pos 0 ∷ []))

-- What is told of the three scans.
abbrev pub worked_scans : List ScanTold
worked_scans =
    scans_told
    (record { a = sound_notes; b = sound_notes; c = worked_notes Agrees Agrees Ready (Some []) None })
    worked_outputs

-- An entry of the history.
abbrev pub entry : ℕ → Leg → Judged → Entry
entry scan leg judged = record { scan = scan; leg = leg; judged = judged }

-- What the definitions come to.
pub record WorkedScans : Type 0 where
  pub history :
      history_of worked_scans
      ≡ entry 2 A (Accuses C) ∷ entry 2 B (Accuses C) ∷ entry 3 A (Accuses C) ∷ entry 3 B (Accuses C)
      ∷ entry 3 C Ready ∷ []
  pub sum : output_sum worked_scans ≡ negsuc 0
  pub alarmed : alarmed_scans worked_scans ≡ 2
