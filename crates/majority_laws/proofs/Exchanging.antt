-- The notes of legs that are in step.
use Rattle.std.proofs.Common.{◌≡◌, ℕ, ◌+◌, ◌-◌, ◌<◌, ◌≤◌, ℤ, Some, List, take, drop, get_or, sym, ap, subst, ◌∙◌, arith}
use Rattle.std.proofs.lemmas.List.{get_or-drop, get_or-take}
use Rattle.tri_base.specs.declared.leg.Leg.{Leg}
use Rattle.tri_base.specs.declared.leg.Leg.TheVariants.{A, B, C}
use Rattle.tri_base.specs.declared.leg.Side.{Side}
use Rattle.tri_base.specs.declared.point.Point.{Point}
use Rattle.tri_base.specs.Legs.{leg_part}
use Rattle.engine_face.specs.Meaning.{Meaning}
use Rattle.fault_history.specs.Notes.{NoteData, no_note}
use Rattle.script_text.specs.ScriptValue.{ScriptValue}
use Rattle.plant_script.specs.Calm.{IsCalm}
use Rattle.plant_script.specs.Countdown.{IsSound}
use Rattle.plant_script.proofs.Plays.{tape_length}
use Rattle.leg_laws.specs.declared.need.Need.TheVariants.{Done}
use Rattle.leg_laws.specs.Configs.{LegValue, need_of, noted}
use Rattle.leg_laws.specs.Endings.{ending_of, state_ending}
use Rattle.leg_laws.specs.Exchanges.{Exchange}
use Rattle.leg_laws.specs.ExchangeSteps.{IsReached}
use Rattle.leg_laws.specs.InStep.{IsInStep, NoneStarved}
use Rattle.leg_laws.specs.Links.{HaveFollowed, IsSettled}
use Rattle.leg_laws.specs.Plays.{play_of, scans_of}
use Rattle.leg_laws.specs.Rounds.{after_scans, state_after}
use Rattle.leg_laws.specs.SentTaken.{SentTaken}
use Rattle.leg_laws.proofs.Reached.{equal_tapes, scripts_stay_in_step}
use Rattle.leg_laws.proofs.Settled.{settled_played}
use Rattle.majority_laws.specs.Carried.{Carry}
use Rattle.majority_laws.specs.Majority.{CanBePlayed, note_at}
use Rattle.majority_laws.specs.EqualVotes.{HasNoTwoFaces, VoteTheSame}
use Rattle.majority_laws.specs.Exchanging.{CarryOn, HaveCarried, HaveNoted, note_in}
use Rattle.majority_laws.specs.Judged.{JudgesFairly}
use Rattle.majority_laws.specs.Sound.{good_ending}
use Rattle.majority_laws.proofs.Accounts.{sound_judged}
use Rattle.majority_laws.proofs.EqualVotes.{votes_equal}
use Rattle.majority_laws.proofs.Outputs.{carried}
use Rattle.majority_laws.proofs.Sound.{sound_ends}

-- a note that was not taken away
front : (notes all : List NoteData) (scan away : ℕ) → 1 ≤ scan → away < scan → take (scan - away) notes ≡ drop away all
    → get_or notes (scan - 1 - away) no_note ≡ get_or all (scan - 1) no_note
front notes all scan away first there e =
    let j : ℕ = scan - 1 - away in
    let within : j < scan - away = omega (arith, first, there) in
    let at : away + j ≡ scan - 1 = omega (arith, first, there) in
    sym (get_or-take (scan - away) notes j no_note within)
    ∙ ap (λ (ns : List NoteData). get_or ns j no_note) e
    ∙ get_or-drop away all j no_note
    ∙ ap (λ (n : ℕ). get_or all n no_note) at

module _ (m : Meaning) (v : ScriptValue) (vs : Leg → LegValue) (is : IsInStep m (play_of v) vs) where
  note_is : (scan : ℕ) → 1 ≤ scan → HaveNoted vs scan → (leg : Leg) → note_in (vs leg) scan ≡ note_at m v scan leg
  note_is scan first h leg =
      front (vs leg).notes (after_scans m (play_of v) leg scan).notes scan (vs leg).given first (h.there leg)
      (is.early scan h.noted leg)

  notes_are : (scan : ℕ) → 1 ≤ scan → HaveNoted vs scan → note_at m v scan ≡ (λ (leg : Leg). note_in (vs leg) scan)
  notes_are scan first h = λ i leg. sym (note_is scan first h leg) i

  pub in_step_vote : (scan : ℕ) → HaveNoted vs scan → 1 ≤ scan → scan ≤ v.scans → HasNoTwoFaces v scan
      → VoteTheSame v scan (λ (leg : Leg). note_in (vs leg) scan)
  in_step_vote scan h first last one =
      subst (λ (notes : Leg → NoteData). VoteTheSame v scan notes) (notes_are scan first h)
      (votes_equal m v scan first last one)

  pub in_step_carry : (scan : ℕ) → CanBePlayed m v → HaveNoted vs scan → 1 ≤ scan → scan ≤ v.scans → IsCalm m v scan
      → CarryOn m v scan vs
  in_step_carry scan can h first last calm =
      record {
        carried = subst (λ (notes : Leg → NoteData). Carry m v scan notes) (notes_are scan first h)
            (carried m v scan can first last calm);
        judged = λ leg sound.
            subst (λ (note : NoteData). JudgesFairly m v scan leg note) (sym (note_is scan first h leg))
            (sound_judged m v can scan first last calm leg sound);
      }

-- ---- step by step

pub exchanging_carry : (m : List Point → Meaning) (v : ScriptValue) (steps : List Leg) (w : Exchange) (scan : ℕ)
    → CanBePlayed (m v.points) v → IsReached m (play_of v) steps w → HaveNoted (leg_part w.legs) scan
    → 1 ≤ scan → scan ≤ v.scans → IsCalm (m v.points) v scan → CarryOn (m v.points) v scan (leg_part w.legs)
exchanging_carry m v steps w scan can r h first last calm =
    in_step_carry (m v.points) v (leg_part w.legs) (scripts_stay_in_step m v steps w r) scan can h first last calm

-- ---- over links

scans_are : (v : ScriptValue) (leg : Leg) → scans_of (play_of v) leg ≡ v.scans
scans_are v A = tape_length v A
scans_are v B = tape_length v B
scans_are v C = tape_length v C

pub in_step_end : (m : Meaning) (v : ScriptValue) (vs : Leg → LegValue) → CanBePlayed m v → IsInStep m (play_of v) vs
    → NoneStarved vs → IsCalm m v v.scans → (leg : Leg) → need_of (vs leg) ≡ Done → IsSound m v leg v.scans
    → ending_of (vs leg).config ≡ Some (good_ending m v v.scans)
in_step_end m v vs can is fed calm leg done sound =
    (is.ends fed leg done).ending
    ∙ ap (λ (n : ℕ). Some (state_ending (state_after m (play_of v) n leg))) (scans_are v leg)
    ∙ ap (λ e. Some e) (sound_ends m v v.scans can (omega arith) calm leg sound)

pub settled_carry : (m : Meaning) (v : ScriptValue) (vs : Leg → LegValue) (ls : Leg → SentTaken)
    (remaining : Leg → Side → List (List ℤ)) → CanBePlayed m v → HaveFollowed m (play_of v) vs ls
    → IsSettled ls remaining
    → NoneStarved vs → HaveCarried m v vs
settled_carry m v vs ls remaining can f s fed =
    let is : IsInStep m (play_of v) vs = (settled_played m (play_of v) vs ls remaining (equal_tapes v) f s).in_step in
    let done : (leg : Leg) → noted (vs leg) ≡ v.scans =
    λ leg. (is.fed fed leg).number ∙ (is.ends fed leg (f.done leg)).finished ∙ scans_are v leg in
    record {
      scans = λ scan first last calm there.
          in_step_carry m v vs is scan can
          (record { noted = λ leg. omega (arith, last, done leg); there = there }) first last calm;
      ends = λ calm leg sound. in_step_end m v vs can is fed calm leg (f.done leg) sound;
    }
