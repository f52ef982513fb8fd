use Rattle.std.proofs.Common.{◌≡◌, ◌∙◌, ◌+◌, ◌<◌, ◌⊎◌, inl, inr, ◌↔◌, refl, sym, ap, subst, ℕ, zero, suc, arith, Bool, true, false, IsTrue, nat_le, Some}
use Rattle.std.proofs.lemmas.Bool.{leb-true, leb-false}
use Rattle.tri_base.specs.declared.leg.Leg.{Leg}
use Rattle.tri_base.specs.declared.leg.Leg.TheVariants.{A, B, C}
use Rattle.tri_base.specs.declared.leg.Triple.{Triple}
use Rattle.engine_face.specs.Meaning.{Meaning}
use Rattle.script_text.specs.ScriptValue.{ScriptValue}
use Rattle.script_text.specs.LegScans.{TapeValue, scan_at, scan_of}
use Rattle.plant_script.specs.Countdown.{IsSuspect}
use Rattle.plant_script.specs.Calm.{IsCalm, IsFirstUncalm, IsQuietScan}
use Rattle.plant_script.specs.Inner.Scans.{IsQuietThere, ShowsBoth, countdowns, tapes_of}
use Rattle.plant_script.proofs.Plays.{seen_a, seen_b, seen_c}

-- a leg's number of three
abbrev of_three : (a b c : ℕ) → Leg → ℕ
of_three a b c A = a
of_three a b c B = b
of_three a b c C = c

abbrev Few : (a b c : ℕ) → Type 0
Few a b c = ((a ≡ 0) × (b ≡ 0)) ⊎ (((b ≡ 0) × (c ≡ 0)) ⊎ ((c ≡ 0) × (a ≡ 0)))

abbrev AtMostOne : (a b c : ℕ) → Type 0
AtMostOne a b c = (x y : Leg) → 0 < of_three a b c x → 0 < of_three a b c y → x ≡ y

none_above : (n : ℕ) → n ≡ 0 → 0 < n → ⊥
none_above n e h = omega (arith, e, h)

one_of : (a b c : ℕ) → Few a b c → AtMostOne a b c
one_of a b c f A A h k = refl
one_of a b c f B B h k = refl
one_of a b c f C C h k = refl
one_of a b c (inl (ea, eb)) A y h k = absurd (none_above a ea h)
one_of a b c (inl (ea, eb)) B y h k = absurd (none_above b eb h)
one_of a b c (inl (ea, eb)) C A h k = absurd (none_above a ea k)
one_of a b c (inl (ea, eb)) C B h k = absurd (none_above b eb k)
one_of a b c (inr (inl (eb, ec))) B y h k = absurd (none_above b eb h)
one_of a b c (inr (inl (eb, ec))) C y h k = absurd (none_above c ec h)
one_of a b c (inr (inl (eb, ec))) A B h k = absurd (none_above b eb k)
one_of a b c (inr (inl (eb, ec))) A C h k = absurd (none_above c ec k)
one_of a b c (inr (inr (ec, ea))) A y h k = absurd (none_above a ea h)
one_of a b c (inr (inr (ec, ea))) C y h k = absurd (none_above c ec h)
one_of a b c (inr (inr (ec, ea))) B A h k = absurd (none_above a ea k)
one_of a b c (inr (inr (ec, ea))) B C h k = absurd (none_above c ec k)

few_of : (a b c : ℕ) → AtMostOne a b c → Few a b c
few_of zero zero c h = inl (refl, refl)
few_of zero (suc b) zero h = inr (inr (refl, refl))
few_of zero (suc b) (suc c) h = let e = h B C (omega arith) (omega arith) in absurd cc
few_of (suc a) zero zero h = inr (inl (refl, refl))
few_of (suc a) zero (suc c) h = let e = h A C (omega arith) (omega arith) in absurd cc
few_of (suc a) (suc b) c h = let e = h A B (omega arith) (omega arith) in absurd cc

faces_of : (v : ScriptValue) (k : ℕ) → ShowsBoth (scan_of v A k) → ShowsBoth (scan_of v B k) → ShowsBoth (scan_of v C k) → (x : Leg) → ShowsBoth (scan_of v x k)
faces_of v k a b c A = a
faces_of v k a b c B = b
faces_of v k a b c C = c

-- the test of a scan is that of the definition
pub quiet_is : (m : Meaning) (v : ScriptValue) (k : ℕ) (counts : Triple ℕ) → counts ≡ countdowns m v k
    → IsQuietThere counts (scan_of v A k) (scan_of v B k) (scan_of v C k) ↔ IsQuietScan m v k
quiet_is m v k counts e =
    let t = countdowns m v k in
    let there = λ (h : IsQuietThere counts (scan_of v A k) (scan_of v B k) (scan_of v C k)).
    subst (λ t. IsQuietThere t (scan_of v A k) (scan_of v B k) (scan_of v C k)) e h in
    let back = λ (h : IsQuietThere t (scan_of v A k) (scan_of v B k) (scan_of v C k)).
    subst (λ t. IsQuietThere t (scan_of v A k) (scan_of v B k) (scan_of v C k)) (sym e) h in (
      λ h. let q = there h in record {
        one = to (one_of t.a t.b t.c q.few);
        faces = faces_of v k q.face_a q.face_b q.face_c;
      },
      λ q. back (record {
        few = few_of t.a t.b t.c (from q.one);
        face_a = q.faces A;
        face_b = q.faces B;
        face_c = q.faces C;
      }),
    )
  where
    to : AtMostOne (countdowns m v k).a (countdowns m v k).b (countdowns m v k).c → (x y : Leg) → IsSuspect m v x k → IsSuspect m v y k → x ≡ y
    to h A A = h A A
    to h A B = h A B
    to h A C = h A C
    to h B A = h B A
    to h B B = h B B
    to h B C = h B C
    to h C A = h C A
    to h C B = h C B
    to h C C = h C C

    from : ((x y : Leg) → IsSuspect m v x k → IsSuspect m v y k → x ≡ y) → AtMostOne (countdowns m v k).a (countdowns m v k).b (countdowns m v k).c
    from h A A = h A A
    from h A B = h A B
    from h A C = h A C
    from h B A = h B A
    from h B B = h B B
    from h B C = h B C
    from h C A = h C A
    from h C B = h C B
    from h C C = h C C

-- one scan more is calm
pub calm_more : (m : Meaning) (v : ScriptValue) (k : ℕ) → IsCalm m v k → IsQuietScan m v (k + 1) → IsCalm m v (k + 1)
calm_more m v k h q j low high = by (nat_le j k) refl
  where
    by : (b : Bool) → nat_le j k ≡ b → IsQuietScan m v j
    by true e = h j low (leb-true j k e)
    by false e = subst (λ j. IsQuietScan m v j) (omega (arith, high, leb-false j k e)) q

-- ---- of the tapes that were read

-- the test of a scan of the tapes is that of the definition
pub quiet_seen : (m : Meaning) (v : ScriptValue) (k : ℕ) (tapes : Triple TapeValue) (counts : Triple ℕ) → tapes ≡ tapes_of v → k < v.scans → counts ≡ countdowns m v (k + 1)
    → IsQuietThere counts (scan_at tapes.a (k + 1)) (scan_at tapes.b (k + 1)) (scan_at tapes.c (k + 1)) ↔ IsQuietScan m v (k + 1)
quiet_seen m v k tapes counts e low is =
    let a = seen_a v tapes k e low in
    let b = seen_b v tapes k e low in
    let c = seen_c v tapes k e low in
    let there = ap (λ l. IsQuietThere counts l (scan_at tapes.b (k + 1)) (scan_at tapes.c (k + 1))) a
    ∙ (ap (λ l. IsQuietThere counts (scan_of v A (k + 1)) l (scan_at tapes.c (k + 1))) b
    ∙ ap (λ l. IsQuietThere counts (scan_of v A (k + 1)) (scan_of v B (k + 1)) l) c) in
    subst (λ T. T ↔ IsQuietScan m v (k + 1)) (sym there) (quiet_is m v (k + 1) counts is)

-- the first scan that isn't quiet
pub first_loud : (m : Meaning) (v : ScriptValue) (k : ℕ) → IsCalm m v k → k < v.scans → (IsQuietScan m v (k + 1) → ⊥) → IsFirstUncalm m v (Some (k + 1))
first_loud m v k calm low loud = (omega arith, omega (arith, low), (λ j h i first last. calm i first (omega (arith, h, last))), loud)

-- before the first scan all are calm
pub none_calm : (m : Meaning) (v : ScriptValue) → IsCalm m v 0
none_calm m v k first last = absurd (omega (arith, first, last))

pub never : IsTrue false → ⊥
never h = cc
