-- The one controller's run, from scan to scan, and legs that recover to it.
use Rattle.std.proofs.Common.{◌≡◌, ℕ, zero, suc, ◌+◌, ◌-◌, ◌<◌, ◌≤◌, false, sym, ap, subst, ◌∙◌, arith}
use Rattle.engine_face.specs.Meaning.{Meaning}
use Rattle.leg_packet.specs.Sheets.{epoch_limit}
use Rattle.script_text.specs.ScriptValue.{ScriptValue}
use Rattle.script_text.specs.LegScans.{scan_of}
use Rattle.plant_script.specs.SingleTexts.{accepts, download_at, text_after}
use Rattle.single_controller.specs.Controller.{controller_after, voted_at}
use Rattle.single_controller.proofs.Texts.{has_text}
use Rattle.leg_laws.specs.States.{Run, Running}
use Rattle.leg_laws.specs.HalfScans.{run_on}
use Rattle.leg_laws.specs.Closing.{run_windows, turned}
use Rattle.leg_laws.specs.Good.{good_run, scans_since}
use Rattle.majority_laws.specs.Majority.{CanBePlayed}
use Rattle.majority_laws.specs.Recovering.{going_on, gone_on}
use Rattle.majority_laws.specs.RecoveringToGood.{RecoversToGood, scans_from}
use Rattle.majority_laws.specs.Standing.{run_in, run_of}
use Rattle.majority_laws.proofs.Controllers.{controller_epoch, controller_kept, good_next, run_kept, since_by, some_windows, turn_of_run, windows_of_run}
use Rattle.majority_laws.proofs.Countdown.{accepted_in, controller_stays, text_one}
use Rattle.majority_laws.proofs.Nearer.{IsSource}
use Rattle.majority_laws.proofs.Recovery.{recovers_from_any_state}

pub run_stays : (m : Meaning) (v : ScriptValue) (scan : ℕ) → accepted_in m v scan ≡ false
    → run_in m v scan ≡ good_run m v (scan - 1)
run_stays m v scan e = λ i. run_of m (controller_stays m v scan e i) (since_by (e i) (scans_since m v (scan - 1)))

module _ (m : Meaning) (v : ScriptValue) (can : CanBePlayed m v) where
  some_good : (k : ℕ) → k ≤ v.scans → 0 < run_windows (good_run m v k)
  some_good k low =
      let c = controller_kept m v can.engine can.texts k low in
      subst (λ n. 0 < n) (sym (windows_of_run m v.points can.engine (controller_after m v k) (scans_since m v k) c))
      (some_windows m v.points can.engine (controller_after m v k) c).0

  -- before the last scan a leg can learn it
  pub good_source : (k : ℕ) → k < v.scans → IsSource m (good_run m v k)
  good_source k low =
      let c = controller_kept m v can.engine can.texts k (omega (arith, low)) in
      let e : (controller_after m v k).epoch < epoch_limit = omega (arith, controller_epoch m v k, low, can.scans) in
      record {
        kept = run_kept m v.points can.engine (controller_after m v k) (scans_since m v k) c (omega (arith, e));
        turn = turn_of_run m v.points can.engine (controller_after m v k) (scans_since m v k) c;
        epoch = e;
      }

  -- where the scan's download isn't accepted, it goes on
  goes_on : (scan : ℕ) → 1 ≤ scan → scan ≤ v.scans → accepted_in m v scan ≡ false
      → gone_on m v.points (λ leg. scan_of v leg scan) (good_run m v (scan - 1)) ≡ good_run m v scan
  goes_on scan first last e =
      let stay : good_run m v (scan - 1) ≡ run_in m v scan = sym (run_stays m v scan e) in
      (λ i. turned (record (stay i) { words = (run_on m (stay i) (voted_at v scan)).words }))
      ∙ good_next m v can.engine can.texts scan first last

  goes_on_one : (k : ℕ) → suc k ≤ v.scans → accepts m (download_at v (suc k)) (text_after m v k) ≡ false
      → gone_on m v.points (λ leg. scan_of v leg (suc k)) (good_run m v k) ≡ good_run m v (suc k)
  goes_on_one k low =
      subst (λ j. accepts m (download_at v (suc k)) (text_after m v j) ≡ false
      → gone_on m v.points (λ leg. scan_of v leg (suc k)) (good_run m v j) ≡ good_run m v (suc k))
      (omega arith) (goes_on (suc k) (omega arith) low)

  -- for as many scans as no download is accepted
  pub goes_on_good : (before scans : ℕ) → before + scans ≤ v.scans
      → ((k : ℕ) → k < scans → accepts m (download_at v (suc (before + k))) (good_run m v before).text ≡ false)
      → (text_after m v (before + scans) ≡ text_after m v before)
      × (going_on m v.points (scans_from v before) (good_run m v before) scans ≡ good_run m v (before + scans))
  unfolding going_on
  goes_on_good before zero low refused =
      let none : before ≡ before + 0 = omega arith in
      (ap (λ (j : ℕ). text_after m v j) (sym none), ap (λ (j : ℕ). good_run m v j) none)
  goes_on_good before (suc n) low refused =
      let b = goes_on_good before n (omega (arith, low)) (λ k l. refused k (omega (arith, l))) in
      let no : accepts m (download_at v (suc (before + n))) (text_after m v (before + n)) ≡ false =
      ap (λ t. accepts m (download_at v (suc (before + n))) t) (b.0 ∙ sym (has_text m v before))
      ∙ refused n (omega arith) in
      let one : suc (before + n) ≡ before + suc n = omega arith in (
        subst (λ j. text_after m v j ≡ text_after m v before) one (text_one m v (before + n) no ∙ b.0),
        ap (λ (r : Run). gone_on m v.points (scans_from v before n) r) b.1
            ∙ goes_on_one (before + n) (omega (arith, low)) no ∙ ap (λ (j : ℕ). good_run m v j) one,
      )

pub recovers_to_good : RecoversToGood
recovers_to_good m v start leg before scans can low beside enough fair each =
    let w : 0 < run_windows (good_run m v before) = some_good m v can before (omega (arith, low)) in
    let s : IsSource m (good_run m v before) = good_source m v can before (omega (arith, low, enough, w)) in
    recovers_from_any_state m v.points (scans_from v before) start leg (good_run m v before) scans can.engine
    (record {
      left = beside.left;
      right = beside.right;
      third = beside.third;
      run_is = s.kept;
      turn = s.turn;
      epoch = s.epoch;
    }) enough fair each
    ∙ ap (λ (r : Run). Running r) (goes_on_good m v can before scans low (λ k l. (fair k l).refused)).1
