-- Two legs that drive and flag the same decide the field outputs and the alarm.
use Rattle.std.proofs.Common.{◌≡◌, ◌≢◌, ℕ, ℤ, ◌≤◌, inl, inr, Bool, true, false, Option, Some, None, List, refl, ◌∙◌, arith}
use Rattle.std.specs.List.{AllZip}
use Rattle.tri_base.specs.declared.leg.Leg.{Leg}
use Rattle.tri_base.specs.declared.leg.Leg.TheVariants.{A, B, C}
use Rattle.chassis.specs.Points.{outputs_of}
use Rattle.chassis.specs.Ranges.{IsWithin}
use Rattle.engine_face.specs.Meaning.{Meaning}
use Rattle.vote_discrete.specs.Majority.{two_of_three}
use Rattle.output_voter.specs.CommonDrives.{TwoDrive}
use Rattle.output_voter.proofs.Equal.{two_are_voted}
use Rattle.script_text.specs.ScriptValue.{ScriptValue}
use Rattle.plant_script.specs.Calm.{IsCalm, IsFirstUncalm}
use Rattle.single_controller.specs.Controller.{controller_in, scanned_at, voted_at}
use Rattle.majority_laws.specs.Carried.{Carry}
use Rattle.majority_laws.specs.Majority.{CanBePlayed, IsBefore, note_at}
use Rattle.majority_laws.proofs.Accounts.{sound_notes, two_note}
use Rattle.majority_laws.proofs.EqualVotes.{votes_equal}
use Rattle.majority_laws.proofs.Controllers.{ready_kept, voted_at_fits}

-- two different legs are two of the three
two_legs : (f : Leg → Option (List ℤ)) (w : List ℤ) (x y : Leg) → x ≢ y → f x ≡ Some w → f y ≡ Some w
    → TwoDrive w (record { a = f A; b = f B; c = f C })
two_legs f w A A apart p q = absurd (apart refl)
two_legs f w A B apart p q = inl (p, q)
two_legs f w A C apart p q = inr (inr (q, p))
two_legs f w B A apart p q = inl (q, p)
two_legs f w B B apart p q = absurd (apart refl)
two_legs f w B C apart p q = inr (inl (p, q))
two_legs f w C A apart p q = inr (inr (p, q))
two_legs f w C B apart p q = inr (inl (q, p))
two_legs f w C C apart p q = absurd (apart refl)

flags_ab : (w z : Bool) → two_of_three w w z ≡ w
flags_ab true z = refl
flags_ab false true = refl
flags_ab false false = refl

flags_ac : (w z : Bool) → two_of_three w z w ≡ w
flags_ac true true = refl
flags_ac true false = refl
flags_ac false true = refl
flags_ac false false = refl

flags_bc : (w z : Bool) → two_of_three z w w ≡ w
flags_bc true true = refl
flags_bc true false = refl
flags_bc false true = refl
flags_bc false false = refl

two_flags : (f : Leg → Bool) (w : Bool) (x y : Leg) → x ≢ y → f x ≡ w → f y ≡ w → two_of_three (f A) (f B) (f C) ≡ w
two_flags f w A A apart p q = absurd (apart refl)
two_flags f w A B apart p q = (λ i. two_of_three (p i) (q i) (f C)) ∙ flags_ab w (f C)
two_flags f w A C apart p q = (λ i. two_of_three (p i) (f B) (q i)) ∙ flags_ac w (f B)
two_flags f w B A apart p q = (λ i. two_of_three (q i) (p i) (f C)) ∙ flags_ab w (f C)
two_flags f w B B apart p q = absurd (apart refl)
two_flags f w B C apart p q = (λ i. two_of_three (f A) (p i) (q i)) ∙ flags_bc w (f A)
two_flags f w C A apart p q = (λ i. two_of_three (q i) (f B) (p i)) ∙ flags_ac w (f B)
two_flags f w C B apart p q = (λ i. two_of_three (f A) (q i) (p i)) ∙ flags_bc w (f A)
two_flags f w C C apart p q = absurd (apart refl)

pub carried : (m : Meaning) (v : ScriptValue) (scan : ℕ) → CanBePlayed m v → 1 ≤ scan → scan ≤ v.scans → IsCalm m v scan
    → Carry m v scan (note_at m v scan)
carried m v scan can first last calm =
    let t = two_note m v can scan first last calm in
    let same = votes_equal m v scan first last (calm scan first (omega arith)).faces in
    let c = controller_in m v scan in
    let k = ready_kept m v can.engine can.texts scan first last in
    let i = voted_at_fits v scan in
    let within : AllZip IsWithin (outputs_of v.points) (scanned_at m v scan).outputs =
    (can.engine.scan c.text c.words (voted_at v scan).values (voted_at v scan).time k.builds k.count i.count i.low
    i.high).outputs in
    record {
      outputs = two_are_voted v.points (scanned_at m v scan).outputs
          (record { a = (note_at m v scan A).drive; b = (note_at m v scan B).drive; c = (note_at m v scan C).drive })
          can.ranges within
          (two_legs (λ (x : Leg). (note_at m v scan x).drive) (scanned_at m v scan).outputs t.one t.two t.apart
          t.notes_one.drive_is t.notes_two.drive_is);
      flag = two_flags (λ (x : Leg). (note_at m v scan x).arith) (scanned_at m v scan).flag t.one t.two t.apart
          t.notes_one.flag_is t.notes_two.flag_is;
      values = same.values;
      time = same.time;
      verdict = λ leg sound. (sound_notes m v can scan first last calm leg sound).verdict_is;
      drive = λ leg sound. (sound_notes m v can scan first last calm leg sound).drive_is;
      arith = λ leg sound. (sound_notes m v can scan first last calm leg sound).flag_is;
    }

pub carried_before : (m : Meaning) (v : ScriptValue) (uncalm : Option ℕ) (scan : ℕ) → CanBePlayed m v
    → IsFirstUncalm m v uncalm → 1 ≤ scan → scan ≤ v.scans → IsBefore scan uncalm → Carry m v scan (note_at m v scan)
carried_before m v None scan can is first last before =
    carried m v scan can first last (λ k from to. is k from (omega (arith, to, last)))
carried_before m v (Some uncalm) scan can is first last before = carried m v scan can first last (is.2 scan before)
