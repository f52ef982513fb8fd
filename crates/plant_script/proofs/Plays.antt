use Rattle.std.proofs.Common.{◌≡◌, ◌∙◌, ◌+◌, ◌-◌, ◌≤◌, ◌<◌, refl, sym, ap, subst, ℕ, suc, List, length, None, arith}
use Rattle.std.proofs.lemmas.List.FromFn.{get_or-map-range_with_len, length-map-range_with_len}
use Rattle.tri_base.specs.declared.leg.Leg.{Leg}
use Rattle.tri_base.specs.declared.leg.Leg.TheVariants.{A, B, C}
use Rattle.tri_base.specs.declared.leg.Triple.{Triple}
use Rattle.engine_face.specs.Meaning.{Meaning}
use Rattle.script_text.specs.ScriptValue.{ScriptValue}
use Rattle.script_text.specs.LegScans.{TapeValue, no_lines, scan_at, scan_of, tape_of}
use Rattle.plant_script.specs.SingleTexts.{accepts, program_windows, text_after, text_changed}
use Rattle.plant_script.specs.Countdown.{recovery_countdown, recovery_span}
use Rattle.plant_script.specs.Inner.Scans.{Stands, counts_behind, tapes_of}

-- what a tape has of a scan is what the leg sees of it
pub tape_scan : (v : ScriptValue) (leg : Leg) (k : ℕ) → 1 ≤ k → k ≤ v.scans → scan_at (tape_of v leg) k ≡ scan_of v leg k
tape_scan v leg k low high = get_or-map-range_with_len (scan_of v leg) 1 v.scans (k - 1) k no_lines (omega (arith, low, high)) (omega (arith, low))

-- a tape has all scans
pub tape_length : (v : ScriptValue) (leg : Leg) → length (tape_of v leg).scans ≡ v.scans
tape_length v leg = length-map-range_with_len (scan_of v leg) 1 v.scans

-- how a play stands behind one scan more
pub next_stands : (m : Meaning) (v : ScriptValue) (k : ℕ) (text text' : List ℕ) (counts counts' : Triple ℕ) → Stands m v k text counts
    → text' ≡ text_changed m (scan_of v A (suc k)).download text → m.builds text' ≡ None
    → counts' ≡ counts_behind (scan_of v A (suc k)) (scan_of v B (suc k)) (scan_of v C (suc k))
    (accepts m (scan_of v A (suc k)).download text) (recovery_span (program_windows m text')) counts
    → Stands m v (suc k) text' counts'
unfolding text_after recovery_countdown
next_stands m v k text text' counts counts' s h builds e =
    let a = scan_of v A (suc k) in
    let b = scan_of v B (suc k) in
    let c = scan_of v C (suc k) in
    let after : text' ≡ text_after m v (suc k) = h ∙ ap (text_changed m a.download) s.text_is in
    let old : List ℕ = text_after m v k in
    record {
      text_is = after;
      builds = builds;
      counts_are = e
          ∙ (ap (λ x. counts_behind a b c (accepts m a.download x) (recovery_span (program_windows m text')) counts) s.text_is
          ∙ (ap (λ x. counts_behind a b c (accepts m a.download old) (recovery_span (program_windows m x)) counts) after
          ∙ ap (λ x. counts_behind a b c (accepts m a.download old) (recovery_span (program_windows m (text_after m v (suc k)))) x) s.counts_are));
    }

-- how it stands before the first scan
pub first_stands : (m : Meaning) (v : ScriptValue) (text : List ℕ) → text ≡ v.text → m.builds v.text ≡ None → Stands m v 0 text (record { a = 0; b = 0; c = 0 })
unfolding text_after recovery_countdown
first_stands m v text e builds = record { text_is = e; builds = ap m.builds e ∙ builds; counts_are = refl }

-- ---- the tapes that were read

-- a scan of each tape is there
pub there_a : (v : ScriptValue) (tapes : Triple TapeValue) (k : ℕ) → tapes ≡ tapes_of v → k < v.scans → (1 ≤ k + 1) × (k + 1 ≤ length tapes.a.scans)
there_a v tapes k e h = (omega arith, omega (arith, ap (λ t. length t.a.scans) e, tape_length v A, h))

pub there_b : (v : ScriptValue) (tapes : Triple TapeValue) (k : ℕ) → tapes ≡ tapes_of v → k < v.scans → (1 ≤ k + 1) × (k + 1 ≤ length tapes.b.scans)
there_b v tapes k e h = (omega arith, omega (arith, ap (λ t. length t.b.scans) e, tape_length v B, h))

pub there_c : (v : ScriptValue) (tapes : Triple TapeValue) (k : ℕ) → tapes ≡ tapes_of v → k < v.scans → (1 ≤ k + 1) × (k + 1 ≤ length tapes.c.scans)
there_c v tapes k e h = (omega arith, omega (arith, ap (λ t. length t.c.scans) e, tape_length v C, h))

-- and is what the leg sees of it
pub seen_a : (v : ScriptValue) (tapes : Triple TapeValue) (k : ℕ) → tapes ≡ tapes_of v → k < v.scans → scan_at tapes.a (k + 1) ≡ scan_of v A (k + 1)
seen_a v tapes k e h = ap (λ t. scan_at t.a (k + 1)) e ∙ tape_scan v A (k + 1) (omega arith) (omega (arith, h))

pub seen_b : (v : ScriptValue) (tapes : Triple TapeValue) (k : ℕ) → tapes ≡ tapes_of v → k < v.scans → scan_at tapes.b (k + 1) ≡ scan_of v B (k + 1)
seen_b v tapes k e h = ap (λ t. scan_at t.b (k + 1)) e ∙ tape_scan v B (k + 1) (omega arith) (omega (arith, h))

pub seen_c : (v : ScriptValue) (tapes : Triple TapeValue) (k : ℕ) → tapes ≡ tapes_of v → k < v.scans → scan_at tapes.c (k + 1) ≡ scan_of v C (k + 1)
seen_c v tapes k e h = ap (λ t. scan_at t.c (k + 1)) e ∙ tape_scan v C (k + 1) (omega arith) (omega (arith, h))

-- how a play stands behind one scan more of the tapes
pub next_seen : (m : Meaning) (v : ScriptValue) (k : ℕ) (tapes : Triple TapeValue) (text text' : List ℕ) (counts counts' : Triple ℕ) → tapes ≡ tapes_of v → k < v.scans → Stands m v k text counts
    → text' ≡ text_changed m (scan_at tapes.a (k + 1)).download text → m.builds text' ≡ None
    → counts' ≡ counts_behind (scan_at tapes.a (k + 1)) (scan_at tapes.b (k + 1)) (scan_at tapes.c (k + 1))
    (accepts m (scan_at tapes.a (k + 1)).download text) (recovery_span (program_windows m text')) counts
    → Stands m v (k + 1) text' counts'
next_seen m v k tapes text text' counts counts' e low s t builds c =
    let one : k + 1 ≡ suc k = omega arith in
    let a : scan_at tapes.a (k + 1) ≡ scan_of v A (suc k) = seen_a v tapes k e low ∙ ap (scan_of v A) one in
    let b : scan_at tapes.b (k + 1) ≡ scan_of v B (suc k) = seen_b v tapes k e low ∙ ap (scan_of v B) one in
    let x : scan_at tapes.c (k + 1) ≡ scan_of v C (suc k) = seen_c v tapes k e low ∙ ap (scan_of v C) one in
    let span = recovery_span (program_windows m text') in
    subst (λ n. Stands m v n text' counts') (sym one) (next_stands m v k text text' counts counts' s
    (t ∙ ap (λ l. text_changed m l.download text) a) builds
    (c ∙ (ap (λ l. counts_behind l (scan_at tapes.b (k + 1)) (scan_at tapes.c (k + 1)) (accepts m l.download text) span counts) a
    ∙ (ap (λ l. counts_behind (scan_of v A (suc k)) l (scan_at tapes.c (k + 1)) (accepts m (scan_of v A (suc k)).download text) span counts) b
    ∙ ap (λ l. counts_behind (scan_of v A (suc k)) (scan_of v B (suc k)) l (accepts m (scan_of v A (suc k)).download text) span counts) x))))
