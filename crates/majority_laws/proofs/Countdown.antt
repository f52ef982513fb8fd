-- The countdown of suspect legs.
use Rattle.std.proofs.Common.{◌≡◌, ℕ, zero, suc, ◌+◌, ◌-◌, ◌*◌, ◌<◌, ◌≤◌, ◌⊎◌, inl, inr, ⊎_elim, Bool, true, false, ◌&&◌, is_none, Option, Some, None, List, refl, ap, ◌∙◌, arith}
use Rattle.std.proofs.lemmas.Bool.{and_parts}
use Rattle.tri_base.specs.declared.leg.Leg.{Leg}
use Rattle.tri_base.specs.declared.leg.Leg.TheVariants.{A, B, C}
use Rattle.tri_base.specs.Legs.{left_of, right_of}
use Rattle.tri_base.specs.Downloads.{Download}
use Rattle.engine_face.specs.declared.refusal.Refusal.{Refusal}
use Rattle.engine_face.specs.Meaning.{Meaning, changes}
use Rattle.script_text.specs.ScriptValue.{ScriptValue}
use Rattle.script_text.specs.LegScans.{LegScan, scan_of}
use Rattle.plant_script.specs.Calm.{IsQuietScan}
use Rattle.plant_script.specs.Countdown.{IsSound, IsSuspect, counted_down, is_quiet, no_acts, recovery_countdown, recovery_span}
use Rattle.plant_script.specs.SingleTexts.{accepts, download_at, program_windows, text_after, text_by, text_changed}
use Rattle.single_controller.specs.Controller.{Controller, changed, changed_by, controller_after, controller_in}
use Rattle.single_controller.proofs.Texts.{has_text}
use Rattle.majority_laws.specs.Recovering.{OwnResults}
use Rattle.majority_laws.proofs.Numbers.{of_scan}

-- whether a scan's download is accepted
abbrev pub accepted_in : Meaning → ScriptValue → (scan : ℕ) → Bool
accepted_in m v scan = accepts m (download_at v scan) (text_after m v (scan - 1))

abbrev pub windows_after : Meaning → ScriptValue → ℕ → ℕ
windows_after m v scans = program_windows m (text_after m v scans)

count_one : (m : Meaning) (v : ScriptValue) (x : Leg) (k : ℕ)
    → recovery_countdown m v x (suc k)
    ≡ counted_down (is_quiet (scan_of v x (suc k))) (accepts m (download_at v (suc k)) (text_after m v k))
    (recovery_span (windows_after m v (suc k))) (recovery_countdown m v x k)
unfolding recovery_countdown
count_one m v x k = refl

pub count_next : (m : Meaning) (v : ScriptValue) (x : Leg) (scan : ℕ) → 1 ≤ scan
    → recovery_countdown m v x scan
    ≡ counted_down (is_quiet (scan_of v x scan)) (accepted_in m v scan) (recovery_span (windows_after m v scan))
    (recovery_countdown m v x (scan - 1))
count_next m v x scan first =
    of_scan (λ k n. recovery_countdown m v x n
    ≡ counted_down (is_quiet (scan_of v x n)) (accepts m (download_at v n) (text_after m v k))
    (recovery_span (windows_after m v n)) (recovery_countdown m v x k))
    (count_one m v x) scan first

pub count_start : (m : Meaning) (v : ScriptValue) (x : Leg) → recovery_countdown m v x 0 ≡ 0
unfolding recovery_countdown
count_start m v x = refl

-- ---- how it comes to a number

pub record FellTo (quiet accepted : Bool) (before : ℕ) : Type 0 where
  pub quiet_is : quiet ≡ true
  pub from : (before ≡ 0) ⊎ ((before ≡ 1) × (accepted ≡ false))

pub to_zero : (quiet accepted : Bool) (windows before : ℕ)
    → counted_down quiet accepted (recovery_span windows) before ≡ 0 → FellTo quiet accepted before
to_zero false accepted windows before e = absurd (omega (arith, e))
to_zero true true windows zero e = record { quiet_is = refl; from = inl refl }
to_zero true true windows (suc b) e = absurd (omega (arith, e))
to_zero true false windows zero e = record { quiet_is = refl; from = inl refl }
to_zero true false windows (suc b) e = record { quiet_is = refl; from = inr (ap suc e ∙ omega arith, refl) }

-- a number above nothing: it was set, or it fell
pub record Fell (quiet accepted : Bool) (before c : ℕ) : Type 0 where
  pub quiet_is : quiet ≡ true
  pub accepted_is : accepted ≡ false
  pub from : before ≡ suc (suc c)

pub to_some : (quiet accepted : Bool) (windows before c : ℕ)
    → counted_down quiet accepted (recovery_span windows) before ≡ suc c
    → (c ≡ 3 * windows + 2) ⊎ Fell quiet accepted before c
to_some false accepted windows before c e = inl (omega (arith, e))
to_some true true windows zero c e = absurd (omega (arith, e))
to_some true true windows (suc b) c e = inl (omega (arith, e))
to_some true false windows zero c e = absurd (omega (arith, e))
to_some true false windows (suc b) c e = inr (record { quiet_is = refl; accepted_is = refl; from = ap suc e })

-- ---- quiet lines

quiet_none : {X : Type 0} (o : Option X) → is_none o ≡ true → o ≡ None
quiet_none None e = refl
quiet_none (Some x) e = absurd (cc)

pub record IsQuiet (l : LegScan) : Type 0 where
  pub acts : no_acts l.acts ≡ true
  pub shown_left : l.shown_left ≡ None
  pub shown_right : l.shown_right ≡ None
  pub results : OwnResults l
  pub drive : l.drive ≡ None

pub quiet : (l : LegScan) → is_quiet l ≡ true → IsQuiet l
quiet l e =
    let p5 = and_parts (no_acts l.acts && is_none l.shown_left && is_none l.shown_right && is_none l.result_left &&
    is_none l.result_right) (is_none l.drive) e in
    let p4 = and_parts (no_acts l.acts && is_none l.shown_left && is_none l.shown_right && is_none l.result_left)
    (is_none l.result_right) p5.0 in
    let p3 = and_parts (no_acts l.acts && is_none l.shown_left && is_none l.shown_right) (is_none l.result_left) p4.0 in
    let p2 = and_parts (no_acts l.acts && is_none l.shown_left) (is_none l.shown_right) p3.0 in
    let p1 = and_parts (no_acts l.acts) (is_none l.shown_left) p2.0 in
    record {
      acts = p1.0;
      shown_left = quiet_none l.shown_left p1.1;
      shown_right = quiet_none l.shown_right p2.1;
      results = record { left = quiet_none l.result_left p3.1; right = quiet_none l.result_right p4.1 };
      drive = quiet_none l.drive p5.1;
    }

-- ---- two legs are sound in a calm scan

pub record TwoSound (m : Meaning) (v : ScriptValue) (scan : ℕ) : Type 0 where
  pub other : Leg
  pub left : IsSound m v (left_of other) scan
  pub right : IsSound m v (right_of other) scan

pub one_of : (n : ℕ) → (n ≡ 0) ⊎ (0 < n)
one_of zero = inl refl
one_of (suc n) = inr (omega arith)

must_be : (n : ℕ) → (0 < n → ⊥) → n ≡ 0
must_be zero h = refl
must_be (suc n) h = absurd (h (omega arith))

ab : A ≡ B → ⊥
ab e = cc

ac : A ≡ C → ⊥
ac e = cc

bc : B ≡ C → ⊥
bc e = cc

pub two_sound : (m : Meaning) (v : ScriptValue) (scan : ℕ) → IsQuietScan m v scan → TwoSound m v scan
two_sound m v scan calm = ⊎_elim
    (λ (a : IsSound m v A scan). ⊎_elim
    (λ (b : IsSound m v B scan). record { other = C; left = b; right = a })
    (λ (b : IsSuspect m v B scan).
    record { other = B; left = a; right = must_be (recovery_countdown m v C scan) (λ c. bc (calm.one B C b c)) })
    (one_of (recovery_countdown m v B scan)))
    (λ (a : IsSuspect m v A scan). record {
      other = A;
      left = must_be (recovery_countdown m v C scan) (λ c. ac (calm.one A C a c));
      right = must_be (recovery_countdown m v B scan) (λ b. ab (calm.one A B a b));
    })
    (one_of (recovery_countdown m v A scan))

-- with a suspect leg given, the others are sound
pub others_sound : (m : Meaning) (v : ScriptValue) (scan : ℕ) (x y : Leg) → IsQuietScan m v scan
    → IsSuspect m v x scan → (x ≡ y → ⊥) → IsSound m v y scan
others_sound m v scan x y calm s apart = must_be (recovery_countdown m v y scan) (λ t. apart (calm.one x y s t))

-- ---- where nothing is accepted the controller stays

unchanged_by : (m : Meaning) (d : Download) (c : Controller) (o : Option Refusal) → is_none o ≡ false
    → changed_by m d c o ≡ c
unchanged_by m d c None e = absurd (cc)
unchanged_by m d c (Some r) e = refl

unchanged : (m : Meaning) (d : Option Download) (c : Controller) → accepts m d c.text ≡ false → changed m d c ≡ c
unchanged m None c e = refl
unchanged m (Some d) c e = unchanged_by m d c (changes m c.text d) e

same_text_by : (d : Download) (text : List ℕ) (o : Option Refusal) → is_none o ≡ false → text_by d text o ≡ text
same_text_by d text None e = absurd (cc)
same_text_by d text (Some r) e = refl

same_text : (m : Meaning) (d : Option Download) (text : List ℕ) → accepts m d text ≡ false → text_changed m d text
    ≡ text
same_text m None text e = refl
same_text m (Some d) text e = same_text_by d text (changes m text d) e

pub text_one : (m : Meaning) (v : ScriptValue) (k : ℕ) → accepts m (download_at v (suc k)) (text_after m v k) ≡ false
    → text_after m v (suc k) ≡ text_after m v k
unfolding text_after
text_one m v k e = same_text m (download_at v (suc k)) (text_after m v k) e

pub text_stays : (m : Meaning) (v : ScriptValue) (scan : ℕ) → 1 ≤ scan → accepted_in m v scan ≡ false
    → text_after m v scan ≡ text_after m v (scan - 1)
text_stays m v scan first =
    of_scan (λ k n. accepts m (download_at v n) (text_after m v k) ≡ false → text_after m v n ≡ text_after m v k)
    (text_one m v) scan first

pub refuses : (m : Meaning) (v : ScriptValue) (scan : ℕ) → accepted_in m v scan ≡ false
    → accepts m (download_at v scan) (controller_after m v (scan - 1)).text ≡ false
refuses m v scan e = ap (λ t. accepts m (download_at v scan) t) (has_text m v (scan - 1)) ∙ e

pub controller_stays : (m : Meaning) (v : ScriptValue) (scan : ℕ) → accepted_in m v scan ≡ false
    → controller_in m v scan ≡ controller_after m v (scan - 1)
controller_stays m v scan e = unchanged m (download_at v scan) (controller_after m v (scan - 1)) (refuses m v scan e)
