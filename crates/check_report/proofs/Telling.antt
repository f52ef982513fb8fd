-- What is told, scan by scan.
use Rattle.std.proofs.Common.{◌≡◌, ◌∙◌, ◌+◌, ◌-◌, ◌≤◌, ◌<◌, refl, sym, ap, subst, ℕ, zero, suc, List, ◌++◌, append_assoc, append-nil, length, Option, None, Some, option_map, codes, arith}
use Rattle.std.specs.List.{flat_map, range_with_len}
use Rattle.tri_base.specs.declared.leg.Leg.TheVariants.{A}
use Rattle.engine_face.specs.Meaning.{Meaning, changes}
use Rattle.engine_face.specs.declared.refusal.Refusal.{Refusal}
use Rattle.tri_base.specs.Downloads.{Download}
use Rattle.report_lines.specs.Lines.{two_words}
use Rattle.report_lines.specs.Refusals.{named, refusal_text}
use Rattle.script_text.specs.ScriptValue.{ScriptValue}
use Rattle.script_text.specs.LegScans.{TapeValue, renames_of, scan_at, scan_of, tape_of}
use Rattle.plant_script.specs.SingleTexts.{download_at, text_after, text_changed}
use Rattle.plant_script.proofs.Plays.{tape_scan, tape_length}
use Rattle.check_report.specs.CheckText.{at_scan, download_line, download_lines}
use Rattle.check_report.specs.Inner.Told.{lines_at, told}

-- one more of a row
row_more : (f : ℕ → List ℕ) (a n : ℕ) → flat_map f (range_with_len a (suc n)) ≡ flat_map f (range_with_len a n) ++ f (a + n)
row_more f a zero = let e : a ≡ a + 0 = omega arith in append-nil (f a) ∙ ap f e
row_more f a (suc n) =
    let e : a + 1 + n ≡ a + suc n = omega arith in
    ap (λ l. f a ++ l) (row_more f (a + 1) n ∙ ap (λ k. flat_map f (range_with_len (a + 1) n) ++ f k) e)
    ∙ sym (append_assoc (f a) (flat_map f (range_with_len (a + 1) n)) (f (a + suc n)))

told_more : (m : Meaning) (v : ScriptValue) (k : ℕ) → told m v (k + 1) ≡ told m v k ++ lines_at m v (k + 1)
told_more m v k =
    let one : k + 1 ≡ suc k = omega arith in let back : 1 + k ≡ k + 1 = omega arith in
    ap (told m v) one ∙ (row_more (lines_at m v) 1 k ∙ ap (λ n. told m v k ++ lines_at m v n) back)

-- a scan of the tape is there
pub there : (v : ScriptValue) (tape : TapeValue) (k : ℕ) → tape ≡ tape_of v A → k < v.scans → (1 ≤ k + 1) × (k + 1 ≤ length tape.scans)
there v tape k e h = (omega arith, omega (arith, ap (λ t. length t.scans) e, tape_length v A, h))

seen : (v : ScriptValue) (tape : TapeValue) (k : ℕ) → tape ≡ tape_of v A → k < v.scans → scan_at tape (k + 1) ≡ scan_of v A (k + 1)
seen v tape k e h = ap (λ t. scan_at t (k + 1)) e ∙ tape_scan v A (k + 1) (omega arith) (omega (arith, h))

-- what is told behind one scan more
pub tells_more : (m : Meaning) (v : ScriptValue) (tape : TapeValue) (k : ℕ) (text old here now : List ℕ) → tape ≡ tape_of v A → k < v.scans → text ≡ text_after m v k
    → here ≡ old ++ told m v k → now ≡ here ++ download_lines m (k + 1) (scan_at tape (k + 1)).download text → now ≡ old ++ told m v (k + 1)
tells_more m v tape k text old here now e h is before after =
    let same : k ≡ k + 1 - 1 = omega arith in
    after ∙ (ap (λ l. here ++ download_lines m (k + 1) l.download text) (seen v tape k e h)
    ∙ (ap (λ t. here ++ download_lines m (k + 1) (download_at v (k + 1)) t) (is ∙ ap (text_after m v) same)
    ∙ (ap (λ l. l ++ lines_at m v (k + 1)) before
    ∙ (append_assoc old (told m v k) (lines_at m v (k + 1)) ∙ ap (λ l. old ++ l) (sym (told_more m v k))))))

-- the text behind it
pub text_more : (m : Meaning) (v : ScriptValue) (tape : TapeValue) (k : ℕ) (text now : List ℕ) → tape ≡ tape_of v A → k < v.scans → text ≡ text_after m v k
    → now ≡ text_changed m (scan_at tape (k + 1)).download text → now ≡ text_after m v (k + 1)
unfolding text_after
text_more m v tape k text now e h is after =
    let one : k + 1 ≡ suc k = omega arith in
    subst (λ n. now ≡ text_after m v n) (sym one)
    (after ∙ (ap (λ l. text_changed m l.download text) (seen v tape k e h ∙ ap (scan_of v A) one) ∙ ap (text_changed m (download_at v (suc k))) is))

-- before the first scan
pub first_text : (m : Meaning) (v : ScriptValue) → v.text ≡ text_after m v 0
unfolding text_after
first_text m v = refl

-- four parts, one behind the other
pub four : (old a b c d at1 at2 at3 at4 : List ℕ) → at1 ≡ old ++ a → at2 ≡ at1 ++ b → at3 ≡ at2 ++ c → at4 ≡ at3 ++ d → at4 ≡ old ++ (a ++ (b ++ (c ++ d)))
four old a b c d at1 at2 at3 at4 e1 e2 e3 e4 =
    e4 ∙ (ap (λ l. l ++ d) (e3 ∙ (ap (λ l. l ++ c) (e2 ∙ (ap (λ l. l ++ b) e1 ∙ append_assoc old a b)) ∙ append_assoc old (a ++ b) c))
    ∙ (append_assoc old ((a ++ b) ++ c) d ∙ ap (λ l. old ++ l) (append_assoc (a ++ b) c d ∙ append_assoc a b (c ++ d))))

-- the line of a refused download
pub refused_line : (m : Meaning) (scan : ℕ) (o : Option Download) (text new : List ℕ) (renames : List (List ℕ × List ℕ)) (refusal : Refusal) → option_map (λ d. d.text) o ≡ Some new → renames ≡ renames_of o
    → changes m text (record { text = new; renames = renames }) ≡ Some refusal
    → download_lines m scan o text ≡ two_words (at_scan scan) (named (codes "REFUSED") (refusal_text refusal))
refused_line m scan None text new renames refusal e r h = absurd cc
refused_line m scan (Some d) text new renames refusal e r h =
    let t : d.text ≡ new = cc in
    let same : d ≡ record { text = new; renames = renames } = λ i. record { text = t i; renames = sym r i } in
    ap (download_line m scan d) (ap (changes m text) same ∙ h)
