-- The majority carries, while all scans are calm. Own rule.
use Rattle.std.specs.Prelude.{◌≡◌, ℕ, ◌-◌, ◌<◌, ◌≤◌, Option, Some, None, slice_index_or}
use Rattle.std.specs.List.{All}
use Rattle.tri_base.specs.declared.leg.Leg.{Leg}
use Rattle.chassis.specs.Ranges.{Fits}
use Rattle.engine_face.specs.Meaning.{Meaning}
use Rattle.engine_face.specs.Laws.{IsMeaning}
use Rattle.leg_packet.specs.Sheets.{epoch_limit}
use Rattle.fault_history.specs.Notes.{NoteData, no_note}
use Rattle.script_text.specs.IsScript.{IsScript}
use Rattle.script_text.specs.ScriptValue.{ReadScript, ScriptValue}
use Rattle.plant_script.specs.Calm.{IsCalm, IsFirstUncalm}
use Rattle.plant_script.specs.FirstRefused.{first_refused_of}
use Rattle.leg_laws.specs.Plays.{IsPlayable, play_of}
use Rattle.leg_laws.specs.Rounds.{after_scans}
use Rattle.majority_laws.specs.Carried.{Carry}

-- A leg's note of a scan, counted from 1.
abbrev pub note_at : Meaning → ScriptValue → (scan : ℕ) → Leg → NoteData
note_at m v scan leg = slice_index_or (after_scans m (play_of v) leg scan).notes (scan - 1) no_note

-- A scan before the first one that isn't calm, where there is one.
abbrev pub IsBefore : (scan : ℕ) (uncalm : Option ℕ) → Type 0
IsBefore scan None = Unit {0}
IsBefore scan (Some uncalm) = scan < uncalm

-- The majority carries: of each script of which an engine refuses no block, in each scan before the first one that
-- isn't calm.
abbrev pub MajorityCarries : Type 0
MajorityCarries =
    (m : Meaning) (s : ReadScript) (uncalm : Option ℕ) (scan : ℕ) → IsMeaning s.value.points m → IsScript s.value
    → first_refused_of m s ≡ None → IsFirstUncalm m s.value uncalm → 1 ≤ scan → scan ≤ s.value.scans
    → IsBefore scan uncalm → Carry m s.value scan (note_at m s.value scan)

-- ---- the same with less asked of a script

-- A script can be played over an engine: the points have their ranges, each text builds and is bytes, and there are no
-- more scans than downloads are counted.
pub record CanBePlayed (m : Meaning) (v : ScriptValue) : Type 0 where
  pub engine : IsMeaning v.points m
  pub ranges : All Fits v.points
  pub texts : IsPlayable m (play_of v)
  pub scans : v.scans ≤ epoch_limit

-- The majority carries in each scan up to which all are calm.
abbrev pub CarriesWhileCalm : Type 0
CarriesWhileCalm =
    (m : Meaning) (v : ScriptValue) (scan : ℕ) → CanBePlayed m v → 1 ≤ scan → scan ≤ v.scans → IsCalm m v scan
    → Carry m v scan (note_at m v scan)

-- And so in each scan before the first one that isn't calm.
abbrev pub CarriesBeforeUncalm : Type 0
CarriesBeforeUncalm =
    (m : Meaning) (v : ScriptValue) (uncalm : Option ℕ) (scan : ℕ) → CanBePlayed m v → IsFirstUncalm m v uncalm
    → 1 ≤ scan → scan ≤ v.scans → IsBefore scan uncalm → Carry m v scan (note_at m v scan)
