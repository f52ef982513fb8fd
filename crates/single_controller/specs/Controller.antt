-- The one controller without faults, over any engine: a fold over the scans of a script. No legs' memories, no boxes,
-- no comparison and no learning occur in it. Own rule.
use Rattle.std.specs.Prelude.{ℕ, ℤ, zero, suc, ◌+◌, ◌-◌, List, Option, Some, None}
use Rattle.tri_base.specs.declared.leg.Leg.TheVariants.{A, B, C}
use Rattle.tri_base.specs.declared.leg.Side.TheVariants.{Right}
use Rattle.tri_base.specs.Downloads.{Download}
use Rattle.engine_face.specs.declared.refusal.Refusal.{Refusal}
use Rattle.engine_face.specs.Meaning.{Meaning, Scanned, changes}
use Rattle.script_text.specs.ScriptValue.{ScriptValue}
use Rattle.script_text.specs.LegScans.{scan_of}
use Rattle.input_legs.specs.VotedSheets.{VotedSheet, vote_sheet_of}
use Rattle.plant_script.specs.Faces.{face}
use Rattle.plant_script.specs.SingleTexts.{download_at}

-- What the readings that the three legs show towards their right are voted to, in a scan.
abbrev pub voted_at : ScriptValue → ℕ → VotedSheet
voted_at v scan = vote_sheet_of v.points (record {
  a = face Right (scan_of v A scan);
  b = face Right (scan_of v B scan);
  c = face Right (scan_of v C scan);
})

-- The controller: its program's text, the words of its memory, and how many downloads it has accepted.
pub record Controller : Type 0 where
  pub text : List ℕ
  pub words : List ℤ
  pub epoch : ℕ

-- It starts with a text and its first words.
abbrev pub first_controller : Meaning → List ℕ → Controller
first_controller m text = record { text = text; words = m.first text; epoch = 0 }

-- It takes a download that nothing refuses, and carries its words; else it stays as it is.
abbrev pub changed_by : Meaning → Download → Controller → Option Refusal → Controller
changed_by m d c None = record { text = d.text; words = m.carried c.text d c.words; epoch = c.epoch + 1 }
changed_by m d c (Some refusal) = c

-- A scan's change point.
abbrev pub changed : Meaning → Option Download → Controller → Controller
changed m None c = c
changed m (Some d) c = changed_by m d c (changes m c.text d)

-- What it makes of a scan's download: nothing without one, else whether and why it is refused.
abbrev pub verdict : Meaning → Option Download → Controller → Option (Option Refusal)
verdict m None c = None
verdict m (Some d) c = Some (changes m c.text d)

-- The scan of its program on voted inputs.
abbrev pub scanned : Meaning → VotedSheet → Controller → Scanned
scanned m voted c = m.scanned c.text c.words voted.values voted.time

-- The controller after so many scans.
unfoldable pub controller_after : Meaning → ScriptValue → ℕ → Controller
controller_after m v zero = first_controller m v.text
controller_after m v (suc scans) =
    let ready = changed m (download_at v (suc scans)) (controller_after m v scans) in
    record ready { words = (scanned m (voted_at v (suc scans)) ready).words }

-- The controller behind a scan's change point. Scans count from 1.
abbrev pub controller_in : Meaning → ScriptValue → ℕ → Controller
controller_in m v scan = changed m (download_at v scan) (controller_after m v (scan - 1))

-- Its verdict on a scan's download.
abbrev pub verdict_at : Meaning → ScriptValue → ℕ → Option (Option Refusal)
verdict_at m v scan = verdict m (download_at v scan) (controller_after m v (scan - 1))

-- The words, outputs and flag of a scan.
abbrev pub scanned_at : Meaning → ScriptValue → ℕ → Scanned
scanned_at m v scan = scanned m (voted_at v scan) (controller_in m v scan)
