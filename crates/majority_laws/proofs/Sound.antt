-- How sound legs stand, and what a refused download leaves.
use Rattle.std.proofs.Common.{◌≡◌, ◌≢◌, ◌⊎◌, inl, inr, ⊎_elim, subst, ℕ, zero, suc, ◌-◌, ◌<◌, ◌≤◌, true, false, Bool, Option, Some, None, is_none, refl, sym, ap, ◌∙◌, arith}
use Rattle.tri_base.specs.declared.leg.Leg.{Leg}
use Rattle.tri_base.specs.declared.leg.Leg.TheVariants.{A, B, C}
use Rattle.tri_base.specs.Legs.{right_of}
use Rattle.majority_laws.proofs.Ring3.{right_right}
use Rattle.tri_base.specs.declared.leg.Side.TheVariants.{Left, Right}
use Rattle.tri_base.specs.Downloads.{Download}
use Rattle.engine_face.specs.declared.refusal.Refusal.{Refusal}
use Rattle.engine_face.specs.declared.verdict.Verdict.TheVariants.{Refused}
use Rattle.engine_face.specs.Meaning.{Meaning, changes}
use Rattle.leg_packet.specs.Readings.{spelled_readings}
use Rattle.script_text.specs.ScriptValue.{ScriptValue}
use Rattle.script_text.specs.LegScans.{LegScan, scan_of}
use Rattle.plant_script.specs.Calm.{IsCalm, IsQuietScan}
use Rattle.plant_script.specs.Countdown.{IsSound, IsSuspect, counted_down, recovery_countdown, recovery_span}
use Rattle.plant_script.specs.Faces.{decided_or, face}
use Rattle.plant_script.specs.SingleTexts.{accepts, download_at}
use Rattle.single_controller.specs.Controller.{Controller, changed, changed_by, controller_after, verdict, verdict_at}
use Rattle.single_controller.proofs.Texts.{has_text}
use Rattle.leg_laws.specs.States.{Running, State}
use Rattle.leg_laws.specs.Endings.{state_ending}
use Rattle.leg_laws.specs.Good.{IsGood}
use Rattle.leg_laws.specs.Plays.{play_of}
use Rattle.leg_laws.specs.Rounds.{state_after}
use Rattle.majority_laws.specs.Carried.{told}
use Rattle.majority_laws.specs.Majority.{CanBePlayed}
use Rattle.majority_laws.specs.Sound.{IsUnchanged, good_ending}
use Rattle.majority_laws.specs.CalmPlays.{HasNoFaults, HasTwoSound, IsUndisturbed}
use Rattle.majority_laws.proofs.Countdown.{IsQuiet, accepted_in, count_next, count_start, quiet, two_sound, windows_after}
use Rattle.majority_laws.proofs.GoodRuns.{run_stays}
use Rattle.majority_laws.proofs.Track.{good_before, good_shown, quiet_here, sound_good, track, tracked_before}

pub sound_is_good : (m : Meaning) (v : ScriptValue) (scans : ℕ) → CanBePlayed m v → scans ≤ v.scans → IsCalm m v scans
    → (leg : Leg) → IsSound m v leg scans → IsGood m v scans (state_after m (play_of v) scans leg)
sound_is_good m v scans can last calm leg sound = (track m v can scans last calm leg).good_where sound

pub sound_was_good : (m : Meaning) (v : ScriptValue) (scan : ℕ) → CanBePlayed m v → 1 ≤ scan → scan ≤ v.scans
    → IsCalm m v scan → (leg : Leg) → IsSound m v leg scan
    → IsGood m v (scan - 1) (state_after m (play_of v) (scan - 1) leg)
sound_was_good m v scan can first last calm leg sound = (sound_good m v can scan first last calm leg sound).0

pub sound_ends : (m : Meaning) (v : ScriptValue) (scans : ℕ) → CanBePlayed m v → scans ≤ v.scans → IsCalm m v scans
    → (leg : Leg) → IsSound m v leg scans → state_ending (state_after m (play_of v) scans leg) ≡ good_ending m v scans
sound_ends m v scans can last calm leg sound =
    ap (λ (s : State). state_ending s) (sound_is_good m v scans can last calm leg sound)

-- ---- a refused download

refused_by : (m : Meaning) (d : Download) (c : Controller) (o : Option Refusal) (r : Refusal)
    → ◌≡◌ {A = Option (Option Refusal)} (Some o) (Some (Some r)) → changed_by m d c o ≡ c
refused_by m d c None r e = absurd (cc)
refused_by m d c (Some q) r e = refl

refused : (m : Meaning) (d : Option Download) (c : Controller) (r : Refusal) → verdict m d c ≡ Some (Some r)
    → changed m d c ≡ c
refused m None c r e = refl
refused m (Some d) c r e = refused_by m d c (changes m c.text d) r e

not_accepted_by : (o : Option Refusal) (r : Refusal) → ◌≡◌ {A = Option (Option Refusal)} (Some o) (Some (Some r))
    → is_none o ≡ false
not_accepted_by None r e = absurd (cc)
not_accepted_by (Some q) r e = refl

not_accepted : (m : Meaning) (d : Option Download) (c : Controller) (r : Refusal) → verdict m d c ≡ Some (Some r)
    → accepts m d c.text ≡ false
not_accepted m None c r e = refl
not_accepted m (Some d) c r e = not_accepted_by (changes m c.text d) r e

pub refused_unchanged : (m : Meaning) (v : ScriptValue) (scan : ℕ) → CanBePlayed m v → 1 ≤ scan → scan ≤ v.scans
    → IsCalm m v scan → (r : Refusal) → verdict_at m v scan ≡ Some (Some r) → IsUnchanged m v scan r
refused_unchanged m v scan can first last calm r e = record {
  controller = refused m (download_at v scan) (controller_after m v (scan - 1)) r e;
  legs = λ leg sound.
      let g = good_before m v can scan first last leg (tracked_before m v can scan first last calm leg) sound in
      let calm_here = quiet_here m v can scan first last calm in
      let h = good_shown m v can scan first last calm_here leg g.0 g.1 in
      let no : accepted_in m v scan ≡ false =
      ap (λ t. accepts m (download_at v scan) t) (sym (has_text m v (scan - 1)))
      ∙ not_accepted m (download_at v scan) (controller_after m v (scan - 1)) r e in
      h.ready
      ∙ (λ i. record {
        state = Running (run_stays m v scan no i);
        verdict = told (e i);
      })
      ∙ (λ i. record { state = sym g.0 i; verdict = Some (Refused r) });
}

-- ---- calm scans

pub two_legs_sound : (m : Meaning) (v : ScriptValue) (scan : ℕ) → IsQuietScan m v scan → HasTwoSound m v scan
two_legs_sound m v scan calm =
    let t = two_sound m v scan calm in
    record {
      leg = right_of t.other;
      one = t.right;
      other = subst (λ (y : Leg). IsSound m v y scan) (sym (right_right t.other)) t.left;
    }

counted_none : (accepted : Bool) (span : ℕ) → counted_down true accepted span 0 ≡ 0
counted_none true span = refl
counted_none false span = refl

sound_without : (m : Meaning) (v : ScriptValue) (scans : ℕ) (leg : Leg) → HasNoFaults v scans leg → (k : ℕ) → k ≤ scans
    → recovery_countdown m v leg k ≡ 0
sound_without m v scans leg none zero l = count_start m v leg
sound_without m v scans leg none (suc k) l =
    let before : recovery_countdown m v leg (suc k - 1) ≡ 0 =
    ap (λ (n : ℕ). recovery_countdown m v leg n) (omega arith)
    ∙ sound_without m v scans leg none k (omega (arith, l)) in
    count_next m v leg (suc k) (omega arith)
    ∙ (λ i. counted_down (none (suc k) (omega arith) l i) (accepted_in m v (suc k))
    (recovery_span (windows_after m v (suc k))) (before i))
    ∙ counted_none (accepted_in m v (suc k)) (recovery_span (windows_after m v (suc k)))

same_faces : (l : LegScan) → IsQuiet l → face Left l ≡ face Right l
same_faces l q =
    (λ i. decided_or (q.shown_left i) (spelled_readings (record { time = l.time; values = l.readings })))
    ∙ (λ i. decided_or (sym q.shown_right i) (spelled_readings (record { time = l.time; values = l.readings })))

is_leg : (x y : Leg) → (x ≡ y) ⊎ (x ≢ y)
is_leg A A = inl refl
is_leg A B = inr (λ e. cc)
is_leg A C = inr (λ e. cc)
is_leg B A = inr (λ e. cc)
is_leg B B = inl refl
is_leg B C = inr (λ e. cc)
is_leg C A = inr (λ e. cc)
is_leg C B = inr (λ e. cc)
is_leg C C = inl refl

not_above : (n : ℕ) → n ≡ 0 → 0 < n → ⊥
not_above n e s = omega (arith, e, s)

pub one_faulty_calm : (m : Meaning) (v : ScriptValue) (scans : ℕ) (faulty : Leg)
    → ((leg : Leg) → leg ≢ faulty → HasNoFaults v scans leg)
    → ((k : ℕ) → 1 ≤ k → k ≤ scans → face Left (scan_of v faulty k) ≡ face Right (scan_of v faulty k))
    → IsCalm m v scans
one_faulty_calm m v scans faulty others shows k first last = record {
  one = λ x y s t. only x s ∙ sym (only y t);
  faces = λ x. ⊎_elim
      (λ (e : x ≡ faulty). subst (λ (z : Leg). face Left (scan_of v z k) ≡ face Right (scan_of v z k)) (sym e)
      (shows k first last))
      (λ (n : x ≢ faulty). same_faces (scan_of v x k) (quiet (scan_of v x k) (others x n k first last)))
      (is_leg x faulty);
}
  where
    only : (x : Leg) → IsSuspect m v x k → x ≡ faulty
    only x s = ⊎_elim
        (λ (e : x ≡ faulty). e)
        (λ (n : x ≢ faulty).
        absurd (not_above (recovery_countdown m v x k) (sound_without m v scans x (others x n) k last) s))
        (is_leg x faulty)

pub undisturbed : (m : Meaning) (v : ScriptValue) (scans : ℕ) → ((leg : Leg) → HasNoFaults v scans leg)
    → IsUndisturbed m v scans
undisturbed m v scans none = record {
  calm = one_faulty_calm m v scans A (λ leg n. none leg)
      (λ k first last. same_faces (scan_of v A k) (quiet (scan_of v A k) (none A k first last)));
  sound = λ leg. sound_without m v scans leg (none leg) scans (omega arith);
}
