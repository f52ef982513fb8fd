-- Each leg votes the same, in scans that aren't calm too. Own rule.
use Rattle.std.specs.Prelude.{◌≡◌, ℕ, ◌≤◌}
use Rattle.tri_base.specs.declared.leg.Leg.{Leg}
use Rattle.tri_base.specs.declared.leg.Side.TheVariants.{Left, Right}
use Rattle.engine_face.specs.Meaning.{Meaning}
use Rattle.fault_history.specs.Notes.{NoteData}
use Rattle.script_text.specs.ScriptValue.{ScriptValue}
use Rattle.script_text.specs.LegScans.{scan_of}
use Rattle.plant_script.specs.Faces.{face}
use Rattle.single_controller.specs.Controller.{voted_at}
use Rattle.leg_laws.specs.Configs.{LegValue}
use Rattle.leg_laws.specs.InStep.{IsInStep}
use Rattle.leg_laws.specs.Plays.{play_of}
use Rattle.majority_laws.specs.Exchanging.{HaveNoted, note_in}
use Rattle.majority_laws.specs.Majority.{note_at}

-- In a scan no leg has two faces: each shows both its neighbours the same readings.
abbrev pub HasNoTwoFaces : ScriptValue → (scan : ℕ) → Type 0
HasNoTwoFaces v scan = (leg : Leg) → face Left (scan_of v leg scan) ≡ face Right (scan_of v leg scan)

-- Legs note the time and the inputs that the readings of the three are voted to: each leg the same ones, in whatever
-- state it is.
pub record VoteTheSame (v : ScriptValue) (scan : ℕ) (notes : Leg → NoteData) : Type 0 where
  pub time : (leg : Leg) → (notes leg).time ≡ (voted_at v scan).time
  pub values : (leg : Leg) → (notes leg).values ≡ (voted_at v scan).values

-- So they do in each scan without two faces, calm or not.
abbrev pub VotesAreEqual : Type 0
VotesAreEqual =
    (m : Meaning) (v : ScriptValue) (scan : ℕ) → 1 ≤ scan → scan ≤ v.scans → HasNoTwoFaces v scan
    → VoteTheSame v scan (note_at m v scan)

-- And so do legs that exchange packets, by the notes that they made.
abbrev pub LegsInStepVoteTheSame : Type 0
LegsInStepVoteTheSame =
    (m : Meaning) (v : ScriptValue) (legs : Leg → LegValue) (scan : ℕ) → IsInStep m (play_of v) legs
    → HaveNoted legs scan → 1 ≤ scan → scan ≤ v.scans → HasNoTwoFaces v scan
    → VoteTheSame v scan (λ leg. note_in (legs leg) scan)
