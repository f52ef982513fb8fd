-- What holds of the one controller, and of a leg that has its run.
use Rattle.std.proofs.Common.{◌≡◌, ℕ, zero, suc, ◌+◌, ◌-◌, ◌*◌, ◌/◌, ◌%◌, ◌<◌, ◌≤◌, Bool, true, false, Option, Some, None, is_none, List, length, if◌then◌else◌, refl, sym, ap, subst, ◌∙◌, arith, mod-eq_of_lt}
use Rattle.std.proofs.Math.Nat.{add-mul-mod_self_left, div-add-mod}
use Rattle.std.specs.List.{All}
use Rattle.tri_base.specs.declared.leg.Leg.TheVariants.{A, B, C}
use Rattle.tri_base.specs.declared.leg.Side.TheVariants.{Right}
use Rattle.tri_base.specs.declared.point.Point.{Point}
use Rattle.tri_base.specs.Downloads.{Download}
use Rattle.engine_face.specs.declared.refusal.Refusal.{Refusal}
use Rattle.engine_face.specs.Meaning.{Meaning, changes}
use Rattle.engine_face.specs.Laws.{IsMeaning}
use Rattle.engine_face.proofs.Changes.{known_where_accepted}
use Rattle.leg_packet.specs.Sheets.{epoch_limit, windows_of}
use Rattle.input_legs.specs.VotedSheets.{VotedSheet}
use Rattle.script_text.specs.ScriptValue.{ScriptValue}
use Rattle.script_text.specs.LegScans.{LegScan, LoadsBytes, scan_of}
use Rattle.plant_script.specs.Faces.{face}
use Rattle.plant_script.specs.SingleTexts.{accepts, download_at, program_windows, text_after}
use Rattle.single_controller.specs.Controller.{Controller, changed, changed_by, controller_after, controller_in, scanned, scanned_at, verdict, voted_at}
use Rattle.leg_laws.specs.States.{IsRun, Running, first_state}
use Rattle.leg_laws.specs.ChangePoint.{change_point, changed_run, next_epoch}
use Rattle.leg_laws.specs.Closing.{run_windows, turned}
use Rattle.leg_laws.specs.Good.{good_run, scans_since}
use Rattle.leg_laws.specs.Plays.{IsPlayable, play_of}
use Rattle.leg_laws.proofs.KeptStates.{IsInput, below, turn_low, voted_fits, windows_low}
use Rattle.majority_laws.specs.Carried.{told}
use Rattle.majority_laws.specs.Standing.{run_in, run_of}
use Rattle.majority_laws.proofs.Numbers.{of_scan}
use Rattle.majority_laws.proofs.Seen.{seen}

-- ---- what holds of it

pub record IsKept (m : Meaning) (c : Controller) : Type 0 where
  pub builds : m.builds c.text ≡ None
  pub bytes : All (λ (byte : ℕ). byte < 256) c.text
  pub count : length c.words ≡ m.word_count c.text

-- the scans since the last download
abbrev pub since_by : (accepted : Bool) (since : ℕ) → ℕ
since_by accepted since = if accepted then 0 else since

module _ (m : Meaning) (points : List Point) (law : IsMeaning points m) where
  kept_by : (d : Download) (c : Controller) → All (λ (byte : ℕ). byte < 256) d.text → IsKept m c
      → (o : Option Refusal) → changes m c.text d ≡ o → IsKept m (changed_by m d c o)
  kept_by d c b k (Some r) e = k
  kept_by d c b k None e =
      let a = known_where_accepted m c.text d e in
      record { builds = a.0; bytes = b; count = law.carried_count c.text d c.words k.builds a.0 a.1 k.count }

  kept_changed : (d : Option Download) (c : Controller) → LoadsBytes d → IsKept m c → IsKept m (changed m d c)
  kept_changed None c b k = k
  kept_changed (Some d) c b k = kept_by d c b k (changes m c.text d) refl

  length_scanned : (v : VotedSheet) (c : Controller) → IsInput points v → IsKept m c
      → length (scanned m v c).words ≡ m.word_count c.text
  length_scanned v c i k =
      (law.scan c.text c.words v.values v.time k.builds k.count i.count i.low i.high).count ∙ k.count

  kept_scanned : (v : VotedSheet) (c : Controller) → IsInput points v → IsKept m c
      → IsKept m (record c { words = (scanned m v c).words })
  kept_scanned v c i k = record { builds = k.builds; bytes = k.bytes; count = length_scanned v c i k }

  pub some_windows : (c : Controller) → IsKept m c
      → (0 < program_windows m c.text) × (program_windows m c.text ≤ 320)
  some_windows c k = windows_low m points law c.text k.builds

  -- ---- a leg that has its run

  pub run_kept : (c : Controller) (since : ℕ) → IsKept m c → c.epoch ≤ epoch_limit → IsRun m (run_of m c since)
  run_kept c since k e =
      let w = some_windows c k in
      record {
        bytes = k.bytes;
        builds = k.builds;
        count = k.count;
        epoch = e;
        turn = turn_low (since % program_windows m c.text) (below since (program_windows m c.text) w.0 w.1);
      }

  pub windows_of_run : (c : Controller) (since : ℕ) → IsKept m c → run_windows (run_of m c since)
      ≡ program_windows m c.text
  windows_of_run c since k = ap (λ n. windows_of (length c.text + n)) k.count

  pub turn_of_run : (c : Controller) (since : ℕ) → IsKept m c → (run_of m c since).turn < run_windows (run_of m c since)
  turn_of_run c since k =
      subst (λ n. since % program_windows m c.text < n) (sym (windows_of_run c since k))
      (less since (program_windows m c.text) (some_windows c k).0)
    where
      less : (a n : ℕ) → 0 < n → a % n < n
      less a n h = omega arith

  -- ---- what a download makes of its run

  ready_by : (d : Download) (c : Controller) (since : ℕ) → IsKept m c → c.epoch < epoch_limit
      → (o : Option Refusal) → changes m c.text d ≡ o
      → changed_run m d (run_of m c since) o
      ≡ record { state = Running (run_of m (changed_by m d c o) (since_by (is_none o) since)); verdict = told (Some o) }
  ready_by d c since k l (Some r) e = refl
  ready_by d c since k l None e =
      let a = known_where_accepted m c.text d e in
      let up : next_epoch c.epoch ≡ c.epoch + 1 = omega (arith, l) in
      let turn : 0 ≡ 0 % program_windows m d.text = sym (mod-eq_of_lt (windows_low m points law d.text a.0).0) in
      λ i. record {
        state = Running (record { text = d.text; words = m.carried c.text d c.words; epoch = up i; turn = turn i });
        verdict = told (Some None);
      }

  pub run_changed : (d : Option Download) (c : Controller) (since : ℕ) → IsKept m c → c.epoch < epoch_limit
      → change_point m d (Running (run_of m c since))
      ≡ record {
        state = Running (run_of m (changed m d c) (since_by (accepts m d c.text) since));
        verdict = told (verdict m d c);
      }
  unfolding change_point
  run_changed None c since k l = refl
  run_changed (Some d) c since k l = ready_by d c since k l (changes m c.text d) refl

  -- ---- and the scan

  turn_on : (a n : ℕ) → (a % n + 1) % n ≡ (a + 1) % n
  turn_on a n =
      sym (add-mul-mod_self_left (a % n + 1) n (a / n))
      ∙ ap (λ b. b % n) (let h : n * (a / n) + a % n ≡ a = div-add-mod a n in omega (arith, h))

  run_turned : (v : VotedSheet) (c : Controller) (since : ℕ) → IsInput points v → IsKept m c
      → turned (record (run_of m c since) { words = (scanned m v c).words })
      ≡ run_of m (record c { words = (scanned m v c).words }) (since + 1)
  run_turned v c since i k =
      let w : windows_of (length c.text + length (scanned m v c).words) ≡ program_windows m c.text =
      ap (λ n. windows_of (length c.text + n)) (length_scanned v c i k) in
      let t : (since % program_windows m c.text + 1) % windows_of (length c.text + length (scanned m v c).words)
      ≡ (since + 1) % program_windows m c.text =
      ap (λ n. (since % program_windows m c.text + 1) % n) w ∙ turn_on since (program_windows m c.text) in
      λ i. record { text = c.text; words = (scanned m v c).words; epoch = c.epoch; turn = t i }

pub voted_at_fits : (v : ScriptValue) (scan : ℕ) → IsInput v.points (voted_at v scan)
voted_at_fits v scan = voted_fits v.points (record {
  a = face Right (scan_of v A scan);
  b = face Right (scan_of v B scan);
  c = face Right (scan_of v C scan);
})

-- ---- the controller of a script

epoch_by : (m : Meaning) (d : Download) (c : Controller) (o : Option Refusal) → (changed_by m d c o).epoch ≤ c.epoch + 1
epoch_by m d c None = omega arith
epoch_by m d c (Some r) = omega arith

epoch_of : (m : Meaning) (d : Option Download) (c : Controller) → (changed m d c).epoch ≤ c.epoch + 1
epoch_of m None c = omega arith
epoch_of m (Some d) c = epoch_by m d c (changes m c.text d)

pub controller_epoch : (m : Meaning) (v : ScriptValue) (k : ℕ) → (controller_after m v k).epoch ≤ k
unfolding controller_after
controller_epoch m v zero = omega arith
controller_epoch m v (suc k) =
    omega (arith, epoch_of m (download_at v (suc k)) (controller_after m v k), controller_epoch m v k)

one_more : (b : Bool) (n : ℕ) → since_by b n + 1 ≡ (if b then 1 else n + 1)
one_more true n = omega arith
one_more false n = refl

-- a scan more, of the text and the number of scans since the last download
next_run : (m : Meaning) (v : ScriptValue) (k : ℕ)
    → run_of m (record (changed m (download_at v (suc k)) (controller_after m v k))
    { words = (scanned m (voted_at v (suc k)) (changed m (download_at v (suc k)) (controller_after m v k))).words })
    (since_by (accepts m (download_at v (suc k)) (text_after m v k)) (scans_since m v k) + 1)
    ≡ run_of m (controller_after m v (suc k)) (scans_since m v (suc k))
unfolding controller_after scans_since
next_run m v k =
    ap (λ (n : ℕ). run_of m (record (changed m (download_at v (suc k)) (controller_after m v k))
    { words = (scanned m (voted_at v (suc k)) (changed m (download_at v (suc k)) (controller_after m v k))).words }) n)
    (one_more (accepts m (download_at v (suc k)) (text_after m v k)) (scans_since m v k))

module _ (m : Meaning) (v : ScriptValue) (law : IsMeaning v.points m) (is : IsPlayable m (play_of v)) where
  pub loads : (scan : ℕ) → 1 ≤ scan → scan ≤ v.scans → LoadsBytes (download_at v scan)
  loads scan first last =
      of_scan (λ k n. n ≤ v.scans → LoadsBytes (download_at v n))
      (λ k low. subst LoadsBytes (ap (λ (l : LegScan). l.download) (seen v A k (omega (arith, low))))
      (is.downloads A k))
      scan first last

  pub controller_kept : (k : ℕ) → k ≤ v.scans → IsKept m (controller_after m v k)
  unfolding controller_after
  controller_kept zero low =
      record { builds = is.builds; bytes = is.bytes; count = law.first_count v.text is.builds }
  controller_kept (suc k) low =
      kept_scanned m v.points law (voted_at v (suc k)) (changed m (download_at v (suc k)) (controller_after m v k))
      (voted_at_fits v (suc k))
      (kept_changed m v.points law (download_at v (suc k)) (controller_after m v k)
      (loads (suc k) (omega arith) low) (controller_kept k (omega (arith, low))))

  pub ready_kept : (scan : ℕ) → 1 ≤ scan → scan ≤ v.scans → IsKept m (controller_in m v scan)
  ready_kept scan first last =
      kept_changed m v.points law (download_at v scan) (controller_after m v (scan - 1)) (loads scan first last)
      (controller_kept (scan - 1) (omega (arith, last)))

  -- the run of the next scan
  pub good_next : (scan : ℕ) → 1 ≤ scan → scan ≤ v.scans
      → turned (record (run_in m v scan) { words = (scanned_at m v scan).words }) ≡ good_run m v scan
  good_next scan first last =
      run_turned m v.points law (voted_at v scan) (controller_in m v scan)
      (since_by (accepts m (download_at v scan) (text_after m v (scan - 1))) (scans_since m v (scan - 1)))
      (voted_at_fits v scan) (ready_kept scan first last)
      ∙ of_scan (λ k n.
      run_of m (record (changed m (download_at v n) (controller_after m v k))
      { words = (scanned m (voted_at v n) (changed m (download_at v n) (controller_after m v k))).words })
      (since_by (accepts m (download_at v n) (text_after m v k)) (scans_since m v k) + 1)
      ≡ run_of m (controller_after m v n) (scans_since m v n)) (next_run m v) scan first

pub first_good : (m : Meaning) (v : ScriptValue) → first_state m v.text ≡ Running (good_run m v 0)
unfolding controller_after scans_since
first_good m v =
    λ i. Running
    (record { text = v.text; words = m.first v.text; epoch = 0; turn = zero_turn (program_windows m v.text) i })
  where
    zero_turn : (n : ℕ) → 0 ≡ 0 % n
    zero_turn n = omega arith
