-- Each leg votes the same where none has two faces.
use Rattle.std.proofs.Common.{◌≡◌, ℕ, ◌-◌, ◌≤◌, Option, refl, sym, ap, ◌∙◌, arith}
use Rattle.tri_base.specs.declared.leg.Leg.{Leg}
use Rattle.tri_base.specs.declared.leg.Side.TheVariants.{Left, Right}
use Rattle.engine_face.specs.Meaning.{Meaning}
use Rattle.engine_face.specs.declared.verdict.Verdict.{Verdict}
use Rattle.input_legs.specs.VotedSheets.{VotedSheet}
use Rattle.fault_history.specs.Notes.{NoteData, no_note}
use Rattle.script_text.specs.ScriptValue.{ScriptValue}
use Rattle.script_text.specs.LegScans.{LegScan}
use Rattle.plant_script.specs.Faces.{face}
use Rattle.single_controller.specs.Controller.{voted_at}
use Rattle.leg_laws.specs.States.{Learning, Running, State}
use Rattle.leg_laws.specs.HalfScans.{HalfScan, half_of}
use Rattle.leg_laws.specs.Plays.{play_of}
use Rattle.leg_laws.specs.Rounds.{state_after}
use Rattle.leg_laws.specs.ThreeScans.{half_at, scans_behind}
use Rattle.majority_laws.specs.EqualVotes.{HasNoTwoFaces, VotesAreEqual}
use Rattle.majority_laws.specs.Majority.{note_at}
use Rattle.majority_laws.proofs.Accounts.{note_made, note_stays}
use Rattle.majority_laws.proofs.Seen.{seen_in, voted_in}
use Rattle.majority_laws.proofs.Votes.{equal_votes, ready_at}

-- a leg has its vote, whether it runs or learns
voted_of : (m : Meaning) (w : VotedSheet) (u : Option Verdict) (state : State) → (half_of m w u state).voted ≡ w
voted_of m w u (Running r) = refl
voted_of m w u (Learning o) = refl

module _ (m : Meaning) (v : ScriptValue) (scan : ℕ) (first : 1 ≤ scan) (last : scan ≤ v.scans)
    (one : HasNoTwoFaces v scan) where
  abbrev seen : Leg → LegScan
  seen = scans_behind (play_of v) (scan - 1)

  abbrev states : Leg → State
  states = state_after m (play_of v) (scan - 1)

  faces : (x : Leg) → face Left (seen x) ≡ face Right (seen x)
  faces x =
      ap (λ (l : LegScan). face Left l) (seen_in v scan first last x) ∙ one x
      ∙ sym (ap (λ (l : LegScan). face Right l) (seen_in v scan first last x))

  voted_is : (x : Leg) → (half_at m v.points seen states x).voted ≡ voted_at v scan
  voted_is x =
      ap (λ (t : HalfScan). t.voted) (equal_votes m v.points seen states faces x)
      ∙ voted_of m _ (ready_at m seen states x).verdict (ready_at m seen states x).state
      ∙ voted_in v scan first last

  note_is : (x : Leg) → note_at m v scan x ≡ note_made m (play_of v) (scan - 1) x
  note_is x = note_stays m (play_of v) (scan - 1) scan x (omega (arith, first)) no_note

pub votes_equal : VotesAreEqual
votes_equal m v scan first last one = record {
  time = λ x.
      ap (λ (t : NoteData). t.time) (note_is m v scan first last one x)
      ∙ ap (λ (w : VotedSheet). w.time) (voted_is m v scan first last one x);
  values = λ x.
      ap (λ (t : NoteData). t.values) (note_is m v scan first last one x)
      ∙ ap (λ (w : VotedSheet). w.values) (voted_is m v scan first last one x);
}
