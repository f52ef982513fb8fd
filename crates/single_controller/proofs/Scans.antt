-- The one controller, scan by scan.
use Rattle.std.proofs.Common.{◌≡◌, ◌∙◌, ◌+◌, ◌-◌, ◌≤◌, sym, ap, ℕ, ℤ, zero, suc, List, length, Option, None, arith}
use Rattle.std.proofs.lemmas.List.FromFn.{get_or-map-range_with_len, length-map-range_with_len}
use Rattle.tri_base.specs.declared.leg.Leg.{Leg}
use Rattle.tri_base.specs.declared.leg.Leg.TheVariants.{A, B, C}
use Rattle.tri_base.specs.declared.leg.Side.TheVariants.{Right}
use Rattle.tri_base.specs.declared.point.Point.{Point}
use Rattle.tri_base.specs.declared.voted.Voted.{Voted}
use Rattle.engine_face.specs.declared.refusal.Refusal.{Refusal}
use Rattle.engine_face.specs.Meaning.{Meaning}
use Rattle.input_legs.specs.VotedSheets.{VotedSheet, vote_sheet_of}
use Rattle.script_text.specs.ScriptValue.{ScriptValue}
use Rattle.script_text.specs.LegScans.{TapeValue, no_lines, scan_at, scan_of, tape_of}
use Rattle.plant_script.specs.Faces.{face}
use Rattle.plant_script.specs.SingleTexts.{download_at}
use Rattle.single_controller.specs.Controller.{Controller, changed, controller_after, controller_in, scanned, scanned_at, verdict, verdict_at, voted_at}
use Rattle.single_controller.specs.Inner.Voted.{sheet_of}
use Rattle.single_controller.specs.Standing.{SingleValue, Stands}

-- what a tape has of a scan is what the leg sees of it
tape_scan : (v : ScriptValue) (leg : Leg) (scan : ℕ) → 1 ≤ scan → scan ≤ v.scans → scan_at (tape_of v leg) scan ≡ scan_of v leg scan
tape_scan v leg scan low high =
    get_or-map-range_with_len (scan_of v leg) 1 v.scans (scan - 1) scan no_lines (omega (arith, low, high)) (omega (arith, low))

-- a tape has all scans
tape_length : (v : ScriptValue) (leg : Leg) → length (tape_of v leg).scans ≡ v.scans
tape_length v leg = length-map-range_with_len (scan_of v leg) 1 v.scans

-- so a scan of the script is one of the tape
pub within : (v : ScriptValue) (leg : Leg) (scan : ℕ) (t : TapeValue) → t ≡ tape_of v leg → scan ≤ v.scans → scan ≤ length t.scans
within v leg scan t e h = omega (arith, h, ap (λ (t : TapeValue). length t.scans) e ∙ tape_length v leg)

-- the controller after a scan is the one behind its change point with the words that the scan leaves
after_one : (m : Meaning) (v : ScriptValue) (scan : ℕ) → 1 ≤ scan
    → controller_after m v scan ≡ record (controller_in m v scan) { words = (scanned_at m v scan).words }
unfolding controller_after
after_one m v zero low = absurd (omega (arith, low))
after_one m v (suc k) low =
    let e : k ≡ suc k - 1 = omega arith in
    ap (λ (n : ℕ). let ready = changed m (download_at v (suc k)) (controller_after m v n) in
    record ready { words = (scanned m (voted_at v (suc k)) ready).words }) e

-- what stands behind a change point, and what was made of the download
pub ready_is : (m : Meaning) (v : ScriptValue) (scan : ℕ) (s : SingleValue) (tape : TapeValue) (ready : Controller)
    → Stands m v (scan - 1) s → 1 ≤ scan → scan ≤ v.scans → tape ≡ s.tape_a
    → ready ≡ changed m (scan_at tape scan).download s.controller → ready ≡ controller_in m v scan
ready_is m v scan s tape ready h low high t e =
    let seen : scan_at tape scan ≡ scan_of v A scan = ap (λ (t : TapeValue). scan_at t scan) (t ∙ h.tape_a) ∙ tape_scan v A scan low high in
    e ∙ (λ i. changed m (seen i).download (h.controller i))

pub verdict_is : (m : Meaning) (v : ScriptValue) (scan : ℕ) (s : SingleValue) (tape : TapeValue) (told : Option (Option Refusal))
    → Stands m v (scan - 1) s → 1 ≤ scan → scan ≤ v.scans → tape ≡ s.tape_a
    → told ≡ verdict m (scan_at tape scan).download s.controller → told ≡ verdict_at m v scan
verdict_is m v scan s tape told h low high t e =
    let seen : scan_at tape scan ≡ scan_of v A scan = ap (λ (t : TapeValue). scan_at t scan) (t ∙ h.tape_a) ∙ tape_scan v A scan low high in
    e ∙ (λ i. verdict m (seen i).download (h.controller i))

-- the vote of the packets that the legs show
pub voted_is : (m : Meaning) (v : ScriptValue) (scan : ℕ) (s : SingleValue) (voted : Voted) (points : List Point) (a b c : List ℤ)
    → Stands m v (scan - 1) s → 1 ≤ scan → scan ≤ v.scans → points ≡ v.points
    → a ≡ face Right (scan_at s.tape_a scan) → b ≡ face Right (scan_at s.tape_b scan) → c ≡ face Right (scan_at s.tape_c scan)
    → voted.dt ≡ (vote_sheet_of points (record { a = a; b = b; c = c })).time
    → voted.values.list ≡ (vote_sheet_of points (record { a = a; b = b; c = c })).values
    → sheet_of voted ≡ voted_at v scan
voted_is m v scan s voted points a b c h low high p ea eb ec time values =
    let fa : a ≡ face Right (scan_of v A scan) =
    ea ∙ ap (face Right) (ap (λ (t : TapeValue). scan_at t scan) h.tape_a ∙ tape_scan v A scan low high) in
    let fb : b ≡ face Right (scan_of v B scan) =
    eb ∙ ap (face Right) (ap (λ (t : TapeValue). scan_at t scan) h.tape_b ∙ tape_scan v B scan low high) in
    let fc : c ≡ face Right (scan_of v C scan) =
    ec ∙ ap (face Right) (ap (λ (t : TapeValue). scan_at t scan) h.tape_c ∙ tape_scan v C scan low high) in
    let sheet : sheet_of voted ≡ vote_sheet_of points (record { a = a; b = b; c = c }) = λ i. record { time = time i; values = values i } in
    sheet ∙ (λ i. vote_sheet_of (p i) (record { a = fa i; b = fb i; c = fc i }))

-- the scan of what was voted behind the change point
pub scanned_is : (m : Meaning) (v : ScriptValue) (scan : ℕ) (voted : VotedSheet) (ready : Controller)
    → voted ≡ voted_at v scan → ready ≡ controller_in m v scan → scanned m voted ready ≡ scanned_at m v scan
scanned_is m v scan voted ready e r = λ i. scanned m (e i) (r i)

-- how it stands behind one scan more
pub next_stands : (m : Meaning) (v : ScriptValue) (scan : ℕ) (s t : SingleValue) (ready : Controller)
    → Stands m v (scan - 1) s → 1 ≤ scan → scan ≤ v.scans
    → ready ≡ controller_in m v scan → m.builds ready.text ≡ None → length ready.words ≡ m.word_count ready.text
    → ready.epoch ≤ s.controller.epoch + 1
    → t.voted ≡ voted_at v scan
    → t.controller ≡ record ready { words = (scanned m t.voted ready).words }
    → length t.controller.words ≡ length ready.words
    → t.tape_a ≡ s.tape_a → t.tape_b ≡ s.tape_b → t.tape_c ≡ s.tape_c
    → Stands m v scan t
next_stands m v scan s t ready h low high e builds count epoch voted controller words ta tb tc =
    let text : t.controller.text ≡ ready.text = ap (λ (c : Controller). c.text) controller in
    record {
      controller = controller ∙ ((λ i. record (e i) { words = (scanned m (voted i) (e i)).words }) ∙ sym (after_one m v scan low));
      tape_a = ta ∙ h.tape_a;
      tape_b = tb ∙ h.tape_b;
      tape_c = tc ∙ h.tape_c;
      builds = ap m.builds text ∙ builds;
      count = words ∙ (count ∙ ap m.word_count (sym text));
      epoch = omega (arith, epoch, h.epoch, low, ap (λ (c : Controller). c.epoch) controller);
    }

-- how it stands before the first scan
pub first_stands : (m : Meaning) (v : ScriptValue) (s : SingleValue) → s.controller ≡ record { text = v.text; words = m.first v.text; epoch = 0 }
    → s.tape_a ≡ tape_of v A → s.tape_b ≡ tape_of v B → s.tape_c ≡ tape_of v C
    → m.builds v.text ≡ None → length (m.first v.text) ≡ m.word_count v.text
    → Stands m v 0 s
unfolding controller_after
first_stands m v s e ta tb tc builds count = record {
  controller = e;
  tape_a = ta;
  tape_b = tb;
  tape_c = tc;
  builds = ap (λ (c : Controller). m.builds c.text) e ∙ builds;
  count = ap (λ (c : Controller). length c.words) e ∙ (count ∙ sym (ap (λ (c : Controller). m.word_count c.text) e));
  epoch = omega (arith, ap (λ (c : Controller). c.epoch) e);
}
